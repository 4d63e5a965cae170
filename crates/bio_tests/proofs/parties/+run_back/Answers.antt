use Rattle.std.proofs.Common.{rules, ◌≡◌, ◌+◌, length, arith}
use Rattle.bio_queue.specs.Serving.{MayMake}
use Rattle.bio_queue.specs.Standing.{stands_of}
use Rattle.bio_tests.proofs.Turns.{fewer_calls}
use Rattle.bio_tests.proofs.parties.+run_back.Goals as goal

pub serve-requires-clause-may : goal.serve-requires-clause-may
serve-requires-clause-may g t c =
    let w = c.args.party.worker in
    let n : length c.pop.new.self.items + 1 ≡ length c.args.steps.items = search rules in
    fewer_calls c.args.sectors.now w.sectors w.width 1 (length c.args.steps.items) (stands_of w.completed.items) w.session (omega (arith, n)) c.requires.may

pub run_back-requires : goal.run_back-requires
run_back-requires g t c κs within =
    let w = c.args.party.worker in
    let s = c.submit-submitted.ensures in
    let n : length c.pop.new.self.items + 1 ≡ length c.args.steps.items = search rules in (
      (let a = c.decreases in omega (arith, a, n)),
      (
        within,
        (
          (search rules),
          (
            (let a = s.count in let b = c.requires.few in omega (arith, a, b, n)),
            (
              c.requires.worker,
              (
                fewer_calls c.args.sectors.now w.sectors w.width (length c.pop.new.self.items) (length c.args.steps.items) (stands_of w.completed.items) w.session (omega (arith, n)) c.requires.may,
                (
                  c.requires.going,
                  (
                      c.requires.done),
                ),
              ),
            ),
          ),
        ),
      ),
    )

pub run_back-requires-in_default-turn : goal.run_back-requires-in_default-turn
run_back-requires-in_default-turn g t c κs within =
    let w = c.args.party.worker in
    let v = c.serve.new.worker in
    let s = c.serve.ensures.same in
    let n : length c.pop.new.self.items + 1 ≡ length c.args.steps.items = search rules in
    let before : MayMake c.args.sectors.now w.sectors w.width (length c.pop.new.self.items + 1) (stands_of w.completed.items) w.session = fewer_calls c.args.sectors.now w.sectors w.width (length c.pop.new.self.items + 1) (length c.args.steps.items) (stands_of w.completed.items) w.session (omega (arith, n)) c.requires.may in (
      (let a = c.decreases in omega (arith, a, n)),
      (
        within,
        (
          c.requires.submitter,
          (
            (let b = c.requires.few in omega (arith, b, n)),
            (
              (search rules),
              (
                rw (s.1, s.2) (c.in_ok-turn-in-Serve.ensures.may c.in_default-turn.not-Off (length c.pop.new.self.items) before),
                (
                  c.in_ok-turn-in-Serve.ensures.going c.in_default-turn.not-Off,
                  (
                      c.in_ok-turn-in-Serve.ensures.done),
                ),
              ),
            ),
          ),
        ),
      ),
    )
