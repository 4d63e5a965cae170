use Rattle.lane_sessions.specs.declared.arenas.Laid.{Laid}
use Rattle.lane_sessions.proofs.Laying.{laid_more}
use Rattle.lane_sessions.proofs.arenas.add_column.Goals as goal

pub returns : goal.returns
returns c =
    let after : Laid = record { arenas = c.push.new.self; ends = c.push_each.new.rows; aside = c.push-2.new.self; passes = c.push_each-2.new.rows } in
    record {
      laid = λ states state laid column.
          laid_more c.args.plan states state c.args.laid.now after c.args.column laid column c.in_ok-push.ensures.items c.in_ok-push_each.ensures c.in_ok-push-2.ensures.items c.in_ok-push_each-2.ensures;
    }
