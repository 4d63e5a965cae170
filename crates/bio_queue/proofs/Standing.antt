-- A worker's completed operations in the arena's history, and the rooms that it has left.
use Rattle.std.proofs.Common.{◌≡◌, ℕ, zero, suc, List, [], ◌∷◌, ◌++◌, sym, ap, ◌∙◌, arith}
use Rattle.std.specs.Prelude.{All}
use mathlib.Core.List.{map-append}
use Rattle.bio_queue.specs.declared.op.Op.{Op}
use Rattle.bio_queue.specs.declared.op.OpReply.{OpReply}
use Rattle.bio_queue.specs.declared.bio.Completed.{Completed}
use Rattle.bio_queue.specs.Serving.{stand_of}
use Rattle.bio_queue.specs.Standing.{stands_of}

-- one more is completed
pub stands_grow : (cs cs' : List Completed) (c : Completed) (call : ℕ) (op : Op) (r : OpReply) → cs' ≡ cs ++ c ∷ [] → c.call ≡ call → c.op ≡ op → c.reply ≡ r → stands_of cs ++ stand_of call op r ∷ [] ≡ stands_of cs'
stands_grow cs cs' c call op r is call_is op_is reply_is =
    (λ i. stands_of cs ++ stand_of (sym call_is i) (sym op_is i) (sym reply_is i) ∷ []) ∙ sym (ap stands_of is ∙ map-append (λ (d : Completed). stand_of d.call d.op d.reply) cs (c ∷ []))

pub all_front : {A : Type 0} (P : A → Type 0) (xs : List A) (y : A) → All P (xs ++ y ∷ []) → All P xs
all_front P [] y all k d lt = absurd (omega (arith, lt))
all_front P (x ∷ xs) y all zero d lt = all 0 d (omega arith)
all_front P (x ∷ xs) y all (suc k) d lt = all_front P xs y (λ j e le. all (suc j) e (omega (arith, le))) k d (omega (arith, lt))
