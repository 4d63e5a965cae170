use Rattle.std.proofs.Common.{◌≡◌, length, rules}
use Rattle.session_script.proofs.Names.{read_has}
use Rattle.session_script.proofs.sessions.read_script.Goals as goal

pub returns-in-Ok-clause-text : goal.returns-in-Ok-clause-text
returns-in-Ok-clause-text c =
    let none : length c.loop-rest.rest.now ≡ 0 = search rules in
    read_has c.args.text.now c.loop-rest.rest.now c.loop-rest.number c.loop-rest.read c.in-Ok.script none c.loop-rest.invariant.same c.in-Ok.ensures
