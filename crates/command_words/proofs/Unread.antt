-- A word that isn't parsed.
use Rattle.std.proofs.Common.{◌≡◌, Option, Some, None, Result, Ok, Err, refl}
use Rattle.std.specs.Prelude.{◌↔◌, IsOk}
use Rattle.std.proofs.lemmas.Bool.{false≢true}

-- a result that isn't Ok has no value
not_ok : {U E : Type 0} (r : Result U E) (e : E) → r ≡ Err e → IsOk r → ⊥
not_ok (Ok u) e is ok = let f = is in cc
not_ok (Err x) e is ok = false≢true ok

-- if a value would be parsed exactly if the word denotes it, and none was, the word denotes none
pub none_spelled : {U V E : Type 0} (r : Result U E) (e : E) (found : Option V) → r ≡ Err e → (IsOk r ↔ ((u : V) × (found ≡ Some u))) → None ≡ found
none_spelled r e None is ok = refl
none_spelled r e (Some u) is ok = absurd (not_ok r e is (ok.1 (u, refl)))
