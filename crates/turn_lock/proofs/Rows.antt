-- Passes in the order of their callers, and a caller's passes in the order of their locks.
use Rattle.std.proofs.Common.{◌≡◌, ◌≢◌, ℕ, ◌<◌, List, [], ◌∷◌, ◌++◌, length, length-append, length-set, get_or, set, map, sym, ap, ◌∙◌, subst, arith, get_or-set_other, get_or-set_same}
use Rattle.std.proofs.lemmas.List.{get_or-map}
use Rattle.std.proofs.Math.ListN.{get_or-append}
use Rattle.std.proofs.Math.Seq.{get_or-append_seam}
use mathlib.Core.Logic.{dite}
use native.Mathlib.Decide.{ℕ_discrete}
use Rattle.atomic_table.specs.Seated.{TableId}
use Rattle.turn_lock.specs.declared.parted.Parted.{Ghosts}
use Rattle.turn_lock.specs.declared.turn.Turn.{Turn}
use Rattle.turn_lock.specs.declared.pass.TurnPass.{TurnPass}
use Rattle.turn_lock.specs.Passes.{lock_id, number_of, AreInOrder, HasEach}
use Rattle.turn_lock.specs.Rows.{IsPassOf, ArePassesOf}
use Rattle.turn_lock.proofs.Places.{there}

-- the lock at j
pub lock_at : {T D : Type 0} (turns : List (Turn T D)) (j : ℕ) (t : Turn T D) (e : TableId) → j < length turns → t ≡ get_or turns j t → get_or (map lock_id turns) j e ≡ lock_id t
lock_at turns j t e h is = get_or-map lock_id turns j t e h ∙ ap lock_id (sym is)

module _ {T D : Type 0} {g : Ghosts T D} where
  -- passes in the order of their numbers are those of each caller
  pub has_each : (ps : List (TurnPass T D g)) → AreInOrder ps → HasEach (length ps) ps
  has_each ps order q h = let p = there ps q h in (q, p.0, h, p.1, ap (λ x. number_of x) (sym p.1) ∙ order q p.0 h)

  pub row_at : (locks : List TableId) (q : ℕ) (K : ℕ → D → Type 0) (ps : List (TurnPass T D g)) (j : ℕ) (p : TurnPass T D g) (lock : TableId)
      → ArePassesOf locks q K ps → j < length locks → get_or locks j lock ≡ lock → p ≡ get_or ps j p → IsPassOf lock q (K j) p
  row_at locks q K ps j p lock row h lock_is is =
      subst (λ x. IsPassOf lock q (K j) x) (sym is) (subst (λ l. IsPassOf l q (K j) (get_or ps j p)) lock_is (row.each j p lock h))

  weaker : (lock : TableId) (q : ℕ) (K K' : D → Type 0) (p : TurnPass T D g) → ((d : D) → K d → K' d) → IsPassOf lock q K p → IsPassOf lock q K' p
  weaker lock q K K' p less s = (s.0, s.1, s.2, (s.3.0, s.3.1, less s.3.0 s.3.2))

  -- the same passes with an equivalent property
  pub row_same : (locks : List TableId) (q : ℕ) (K K' : ℕ → D → Type 0) (ps : List (TurnPass T D g)) → ((j : ℕ) (d : D) → K j d → K' j d) → ArePassesOf locks q K ps → ArePassesOf locks q K' ps
  row_same locks q K K' ps less row = record { count = row.count; each = λ j p e h. weaker (get_or locks j e) q (K j) (K' j) (get_or ps j p) (less j) (row.each j p e h) }

  -- a turn at the lock i
  pub row_set : (locks : List TableId) (q : ℕ) (K K' : ℕ → D → Type 0) (ps : List (TurnPass T D g)) (i : ℕ) (p : TurnPass T D g) (lock : TableId)
      → ArePassesOf locks q K ps → i < length locks → ((e : TableId) → get_or locks i e ≡ lock) → IsPassOf lock q (K' i) p → ((j : ℕ) → j ≢ i → (d : D) → K j d → K' j d)
      → ArePassesOf locks q K' (set ps i p)
  row_set locks q K K' ps i p lock row h lock_is mine others = record {
    count = length-set ps i p ∙ row.count;
    each = λ j d e inside. dite (ℕ_discrete j i)
        (λ same.
        let own : get_or (set ps i p) i d ≡ p = get_or-set_same ps i p d (omega (arith, row.count)) in
        let here : IsPassOf (get_or locks i e) q (K' i) (get_or (set ps i p) i d) =
        subst (λ x. IsPassOf (get_or locks i e) q (K' i) x) (sym own) (subst (λ l. IsPassOf l q (K' i) p) (sym (lock_is e)) mine) in
        subst (λ (k : ℕ). IsPassOf (get_or locks k e) q (K' k) (get_or (set ps i p) k d)) (sym same) here)
        (λ other.
        subst (λ x. IsPassOf (get_or locks j e) q (K' j) x) (sym (get_or-set_other ps i j p d other))
        (weaker (get_or locks j e) q (K j) (K' j) (get_or ps j d) (others j other) (row.each j d e inside)));
  }

  -- one lock more, and a pass of it
  pub row_push : (locks : List TableId) (q : ℕ) (K : ℕ → D → Type 0) (ps : List (TurnPass T D g)) (lock : TableId) (p : TurnPass T D g)
      → ArePassesOf locks q K ps → IsPassOf lock q (K (length locks)) p → ArePassesOf (locks ++ lock ∷ []) q K (ps ++ p ∷ [])
  row_push locks q K ps lock p row mine = record {
    count = omega (arith, length-append ps (p ∷ []), length-append locks (lock ∷ []), row.count);
    each = λ j d e h. dite (ℕ_discrete j (length locks))
        (λ last.
        let here : get_or (ps ++ p ∷ []) (length locks) d ≡ p = ap (λ (k : ℕ). get_or (ps ++ p ∷ []) k d) (sym row.count) ∙ get_or-append_seam ps p [] d in
        subst (λ (i : ℕ). IsPassOf (get_or (locks ++ lock ∷ []) i e) q (K i) (get_or (ps ++ p ∷ []) i d)) (sym last)
        (subst (λ x. IsPassOf (get_or (locks ++ lock ∷ []) (length locks) e) q (K (length locks)) x) (sym here)
        (subst (λ l. IsPassOf l q (K (length locks)) p) (sym (get_or-append_seam locks lock [] e)) mine)))
        (λ other.
        let inside : j < length locks = omega (arith, length-append locks (lock ∷ [])) in
        let near : j < length ps = omega (arith, row.count) in
        subst (λ x. IsPassOf (get_or (locks ++ lock ∷ []) j e) q (K j) x) (sym (get_or-append ps (p ∷ []) d j near))
        (subst (λ l. IsPassOf l q (K j) (get_or ps j d)) (sym (get_or-append locks (lock ∷ []) e j inside)) (row.each j d e inside)));
  }

  -- the same in reverse
  pub row_pop : (locks : List TableId) (q : ℕ) (K : ℕ → D → Type 0) (ps : List (TurnPass T D g)) (lock : TableId) (p : TurnPass T D g)
      → ArePassesOf (locks ++ lock ∷ []) q K (ps ++ p ∷ []) → ArePassesOf locks q K ps × IsPassOf lock q (K (length locks)) p
  row_pop locks q K ps lock p row =
      let long : length ps ≡ length locks = omega (arith, length-append ps (p ∷ []), length-append locks (lock ∷ []), row.count) in (
        record {
          count = long;
          each = λ j d e h.
              let near : j < length ps = omega (arith, long) in
              let within : j < length (locks ++ lock ∷ []) = omega (arith, length-append locks (lock ∷ [])) in
              subst (λ x. IsPassOf (get_or locks j e) q (K j) x) (get_or-append ps (p ∷ []) d j near)
              (subst (λ l. IsPassOf l q (K j) (get_or (ps ++ p ∷ []) j d)) (get_or-append locks (lock ∷ []) e j h) (row.each j d e within));
        },
        (let within : length locks < length (locks ++ lock ∷ []) = omega (arith, length-append locks (lock ∷ [])) in
            let here : get_or (ps ++ p ∷ []) (length locks) p ≡ p = ap (λ (k : ℕ). get_or (ps ++ p ∷ []) k p) (sym long) ∙ get_or-append_seam ps p [] p in
            subst (λ x. IsPassOf lock q (K (length locks)) x) here (subst (λ l. IsPassOf l q (K (length locks)) (get_or (ps ++ p ∷ []) (length locks) p)) (get_or-append_seam locks lock [] lock) (row.each (length locks) p lock within))),
      )
