-- The writes in flight that sessions know of, in one list.
use Rattle.std.proofs.Common.{◌≡◌, ◌≢◌, ◌⊎◌, inl, inr, ℕ, zero, suc, ◌<◌, ◌≤◌, ◌==◌, cond, List, [], ◌∷◌, ◌++◌, refl, sym, ap, ◌∙◌, subst, arith, eq-eqb, ne_eqb}
use Rattle.std.specs.Prelude.{Any}
use Rattle.std.specs.List.{AllByRecursion}
use Rattle.std.proofs.lemmas.List.Elements.{filter-append}
use Rattle.lane_core.specs.declared.in_call.InCall.{InCall}
use Rattle.lane_core.proofs.Put.{same_or_not}
use Rattle.session_parts.specs.Parts.{calls_by}
use Rattle.lane_calls.specs.declared.parts.ArenaPart.{ArenaPart}
use Rattle.lane_sessions.specs.Closing.{all_calls}
use Rattle.lane_sessions.proofs.Lists.{any_front, any_behind}

-- at most one call, of this session
abbrev pub Owns : ℕ → List InCall → Type 0
Owns q calls = (calls ≡ []) ⊎ ((c : InCall) × (calls ≡ c ∷ []) × (c.tag.session ≡ q))

abbrev pub AllOwn : ℕ → (ℕ → ArenaPart) → Type 0
AllOwn n known = (q : ℕ) → q < n → Owns q (known q).mine.calls

fewer : (n : ℕ) (known : ℕ → ArenaPart) → AllOwn (suc n) known → AllOwn n known
fewer n known owns q h = owns q (omega (arith, h))

calls_own : (q : ℕ) (calls : List InCall) → Owns q calls → calls_by q calls ≡ calls
calls_own q calls (inl none) = ap (calls_by q) none ∙ sym none
calls_own q calls (inr (c, is, own)) = ap (calls_by q) is ∙ ap (λ b. cond b (c ∷ []) []) (eq-eqb c.tag.session q own) ∙ sym is

calls_other : (q r : ℕ) (calls : List InCall) → r ≢ q → Owns r calls → calls_by q calls ≡ []
calls_other q r calls other (inl none) = ap (calls_by q) none
calls_other q r calls other (inr (c, is, own)) = ap (calls_by q) is ∙ ap (λ b. cond b (c ∷ []) []) (ne_eqb c.tag.session q (λ e. other (sym own ∙ e)))

both : (q : ℕ) (xs ys us vs : List InCall) → calls_by q xs ≡ us → calls_by q ys ≡ vs → calls_by q (xs ++ ys) ≡ us ++ vs
both q xs ys us vs d e = filter-append (λ c. c.tag.session == q) xs ys ∙ ap (λ l. l ++ calls_by q ys) d ∙ ap (λ l. us ++ l) e

append_nil : (xs : List InCall) → xs ++ [] ≡ xs
append_nil [] = refl
append_nil (x ∷ xs) = ap (λ l. x ∷ l) (append_nil xs)

pub none_above : (n : ℕ) (known : ℕ → ArenaPart) → AllOwn n known → (q : ℕ) → n ≤ q → calls_by q (all_calls n known) ≡ []
none_above zero known owns q h = refl
none_above (suc n) known owns q h =
    both q (all_calls n known) (known n).mine.calls [] [] (none_above n known (fewer n known owns) q (omega (arith, h)))
    (calls_other q n (known n).mine.calls (λ e. let d : n ≡ q = e in omega (arith, h, d)) (owns n (omega arith)))

own_last : (n : ℕ) (known : ℕ → ArenaPart) → AllOwn (suc n) known → (q : ℕ) → q < suc n → ((q < n) → calls_by q (all_calls n known) ≡ (known q).mine.calls) → (q ≡ n) ⊎ (q ≢ n) → calls_by q (all_calls (suc n) known) ≡ (known q).mine.calls
own_last n known owns q h before (inl e) =
    both q (all_calls n known) (known n).mine.calls [] (known n).mine.calls (none_above n known (fewer n known owns) q (omega (arith, e)))
    (subst (λ (m : ℕ). calls_by m (known n).mine.calls ≡ (known n).mine.calls) (sym e) (calls_own n (known n).mine.calls (owns n (omega arith))))
    ∙ ap (λ (m : ℕ). (known m).mine.calls) (sym e)
own_last n known owns q h before (inr ne) =
    both q (all_calls n known) (known n).mine.calls (known q).mine.calls [] (before (omega (arith, h, ne)))
    (calls_other q n (known n).mine.calls (λ e. ne (sym e)) (owns n (omega arith)))
    ∙ append_nil (known q).mine.calls

pub own_calls : (n : ℕ) (known : ℕ → ArenaPart) → AllOwn n known → (q : ℕ) → q < n → calls_by q (all_calls n known) ≡ (known q).mine.calls
own_calls zero known owns q h = absurd (omega (arith, h))
own_calls (suc n) known owns q h = own_last n known owns q h (λ lt. own_calls n known (fewer n known owns) q lt) (same_or_not q n)

-- ---- each is of a session

below : (n m : ℕ) (xs : List InCall) → n ≤ m → AllByRecursion (λ c. c.tag.session < n) xs → AllByRecursion (λ c. c.tag.session < m) xs
below n m [] h a = tt
below n m (c ∷ xs) h a = (let lt = a.0 in omega (arith, h, lt), below n m xs h a.1)

append_all : (n : ℕ) (xs ys : List InCall) → AllByRecursion (λ c. c.tag.session < n) xs → AllByRecursion (λ c. c.tag.session < n) ys → AllByRecursion (λ c. c.tag.session < n) (xs ++ ys)
append_all n [] ys a b = b
append_all n (x ∷ xs) ys a b = (a.0, append_all n xs ys a.1 b)

one_below : (n : ℕ) (calls : List InCall) → Owns n calls → AllByRecursion (λ c. c.tag.session < suc n) calls
one_below n calls (inl none) = subst (AllByRecursion (λ c. c.tag.session < suc n)) (sym none) tt
one_below n calls (inr (c, is, own)) = subst (AllByRecursion (λ c. c.tag.session < suc n)) (sym is) (omega (arith, own), tt)

pub all_below : (n : ℕ) (known : ℕ → ArenaPart) → AllOwn n known → AllByRecursion (λ c. c.tag.session < n) (all_calls n known)
all_below zero known owns = tt
all_below (suc n) known owns =
    append_all (suc n) (all_calls n known) (known n).mine.calls (below n (suc n) (all_calls n known) (omega arith) (all_below n known (fewer n known owns)))
    (one_below n (known n).mine.calls (owns n (omega arith)))

-- ---- and each session's are among them

any_last : (P : InCall → Type 0) (n : ℕ) (known : ℕ → ArenaPart) (q : ℕ) → q < suc n → Any P (known q).mine.calls → ((q < n) → Any P (all_calls n known)) → (q ≡ n) ⊎ (q ≢ n) → Any P (all_calls (suc n) known)
any_last P n known q h a before (inl e) = any_behind P (all_calls n known) (known n).mine.calls (subst (λ (m : ℕ). Any P (known m).mine.calls) e a)
any_last P n known q h a before (inr ne) = any_front P (all_calls n known) (known n).mine.calls (before (omega (arith, h, ne)))

pub any_of : (P : InCall → Type 0) (n : ℕ) (known : ℕ → ArenaPart) (q : ℕ) → q < n → Any P (known q).mine.calls → Any P (all_calls n known)
any_of P zero known q h a = absurd (omega (arith, h))
any_of P (suc n) known q h a = any_last P n known q h a (λ lt. any_of P n known q lt a) (same_or_not q n)
