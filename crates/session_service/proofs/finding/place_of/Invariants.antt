use Rattle.std.proofs.Common.{◌≡◌, ◌<◌, ℕ, get_or, false}
use Rattle.std.specs.Str.{bytes_eq}
use Rattle.session_service.proofs.finding.place_of.Given as goal

abbrev pub invariant-loop-i : goal.invariant-loop-i
invariant-loop-i l = (j : ℕ) (d : _) → j < l.i → bytes_eq (get_or l.places j d).uuid l.uuid ≡ false
