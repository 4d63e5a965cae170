-- The passes while they are made.
use Rattle.std.proofs.Common.{List, [], ◌∷◌, ◌++◌, length}
use Rattle.atomic_table.specs.Seated.{TableId}
use Rattle.turn_lock.specs.declared.parted.Parted.{Ghosts}
use Rattle.turn_lock.specs.declared.pass.TurnPass.{TurnPass}
use Rattle.turn_lock.specs.Passes.{IsFresh, AreFresh}
use Rattle.turn_lock.proofs.Places.{each_push}

pub fresh_push : {T D : Type 0} {g : Ghosts T D} (lock : TableId) (x : T) (ps : List (TurnPass T D g)) (p : TurnPass T D g) → AreFresh lock x ps → IsFresh lock x (length ps) p → AreFresh lock x (ps ++ p ∷ [])
fresh_push {T} {D} {g} lock x ps p front last = each_push (λ q p. IsFresh lock x q p) ps p front last
