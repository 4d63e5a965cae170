-- Words with two values, and the loop that chooses one of each.
use Rattle.std.proofs.Common.{◌≡◌, ◌≢◌, ℕ, zero, suc, ◌<◌, inl, inr, Bool, true, false, cond, List, [], ◌∷◌, length, drop, get_or, Option, Some, None, refl, sym, ap, ◌∙◌, subst, arith, eq-eqb}
use Rattle.std.specs.Prelude.{◌==◌, unwrap_or}
use Rattle.std.proofs.lemmas.Bool.{eqb-true}
use Rattle.std.proofs.lemmas.List.{get_or-drop, get_or_read}
use Rattle.std.proofs.lemmas.Option.{none-some, same_Some}
use Rattle.cut_words.specs.Leaving.{LeavesOne}
use Rattle.cut_words.specs.Words.{IsLeft}
use Rattle.lane_core.specs.Reopening.{IsEither}
use Rattle.session_service.specs.Ends.{PendingDiffer, differing, two_valued}

-- ---- words with two values

pub differing_length : (kept seen : List ℕ) → length seen ≡ length kept → length (differing kept seen) ≡ length kept
differing_length [] seen same = refl
differing_length (k ∷ ks) [] same = absurd (omega (arith, same))
differing_length (k ∷ ks) (s ∷ ss) same = ap suc (differing_length ks ss (omega (arith, same)))

-- the stored value of word i
pub differing_at : (kept seen : List ℕ) (i : ℕ) → i < length kept → length seen ≡ length kept → get_or (differing kept seen) i None ≡ cond (get_or kept i 0 == get_or seen i 0) None (Some (get_or seen i 0))
differing_at [] seen i lt same = absurd (omega (arith, lt))
differing_at (k ∷ ks) [] i lt same = absurd (omega (arith, same))
differing_at (k ∷ ks) (s ∷ ss) zero lt same = refl
differing_at (k ∷ ks) (s ∷ ss) (suc i) lt same = differing_at ks ss i (omega (arith, lt)) (omega (arith, same))

stored_differs : (k s v : ℕ) (b : Bool) → (k == s) ≡ b → cond b None (Some s) ≡ Some v → v ≢ k
stored_differs k s v true e is = absurd (none-some v is)
stored_differs k s v false e is = λ same. absurd (let x : true ≡ false = sym (eq-eqb k s (sym same ∙ sym (same_Some s v is))) ∙ e in cc)

pub pending_differ : (kept seen : List ℕ) → PendingDiffer (two_valued kept seen)
pending_differ [] seen i v is = absurd (none-some v is)
pending_differ (k ∷ ks) [] i v is = absurd (none-some v is)
pending_differ (k ∷ ks) (s ∷ ss) zero v is = stored_differs k s v (k == s) refl is
pending_differ (k ∷ ks) (s ∷ ss) (suc i) v is = pending_differ ks ss i v is

-- a load returns the seen value, whether it differs or not
seen_by : (k s : ℕ) (b : Bool) → (k == s) ≡ b → unwrap_or (cond b None (Some s)) k ≡ s
seen_by k s true e = eqb-true k s e
seen_by k s false e = refl

pub two_seen : (kept seen : List ℕ) → length seen ≡ length kept → (i : ℕ) → unwrap_or (get_or (differing kept seen) i None) (get_or kept i 0) ≡ get_or seen i 0
two_seen [] [] same i = refl
two_seen [] (s ∷ ss) same i = absurd (omega (arith, same))
two_seen (k ∷ ks) [] same i = absurd (omega (arith, same))
two_seen (k ∷ ks) (s ∷ ss) same zero = seen_by k s (k == s) refl
two_seen (k ∷ ks) (s ∷ ss) same (suc i) = two_seen ks ss (omega (arith, same)) i

pub either_left : (kept seen left : List ℕ) → length seen ≡ length kept → IsLeft (two_valued kept seen) left → IsEither kept seen left
either_left kept seen left same is = record {
  same_length = is.same_length;
  each = λ i. elim (is.each i) [
    | inl e ↦ inl e
    | inr e ↦ inr (e ∙ two_seen kept seen same i)
  ];
}

-- ---- the loop that chooses

read_there : (xs ys : List ℕ) (i : ℕ) → drop i xs ≡ drop i ys → get_or xs i 0 ≡ get_or ys i 0
read_there xs ys i same =
    ap (λ (k : ℕ). get_or xs k 0) (omega arith) ∙ sym (get_or-drop i xs 0 0) ∙ ap (λ (zs : List ℕ). get_or zs 0 0) same
    ∙ get_or-drop i ys 0 0 ∙ ap (λ (k : ℕ). get_or ys k 0) (omega arith)

pub chosen_at : {C : Type 0} (picks : C → ℕ → Bool → C → Type 0) (kept seen now : List ℕ) (i x y value : ℕ) (c c' : C) → length seen ≡ length kept → i < length kept → length now ≡ length kept → drop i now ≡ drop i kept
    → x ≡ get_or now i x → y ≡ get_or seen i 0 → LeavesOne picks i x (cond (x == y) None (Some y)) value c c' → LeavesOne picks i (get_or kept i 0) (get_or (differing kept seen) i None) value c c'
chosen_at picks kept seen now i x y value c c' same lt long untouched read_kept read_seen one =
    let kept_is : x ≡ get_or kept i 0 = get_or_read now i x (omega (arith, lt, long)) read_kept 0 ∙ read_there now kept i untouched in
    let stored_is : cond (x == y) None (Some y) ≡ get_or (differing kept seen) i None =
    (λ j. cond (kept_is j == read_seen j) None (Some (read_seen j))) ∙ sym (differing_at kept seen i lt same) in
    subst (λ (o : Option ℕ). LeavesOne picks i (get_or kept i 0) o value c c') stored_is
    (subst (λ (k : ℕ). LeavesOne picks i k (cond (x == y) None (Some y)) value c c') kept_is one)
