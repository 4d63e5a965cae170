-- DPA ranges of a table without aliases share no bytes.
use Rattle.std.proofs.Common.{◌≡◌, ◌≢◌, ◌+◌, ◌<◌, ◌≤◌, Bool, false, min, max, List, [], ◌∷◌, Option, Some, None, refl, sym, ap, ◌∙◌, subst, arith, inl, inr}
use Rattle.std.specs.Prelude.{find, unwrap_or, ◌⊎◌}
use Rattle.std.specs.Option.{option_map}
use Rattle.std.proofs.lemmas.Bool.{cases_Bool, cases_lt, eq-eqb, ne_eqb, ltb-true, ltb-false, lt-ltb, true≢false}
use Rattle.std.proofs.lemmas.Option.{none-some}
use Rattle.nfit_reader.specs.declared.alias.DpaRange.{DpaRange}
use Rattle.nfit_reader.specs.declared.table.NfitFault.{NfitFault}
use Rattle.nfit_reader.specs.declared.table.NfitFault.TheVariants as fault
use Rattle.nfit_reader.specs.Table.{meets, is_alias, alias_in}
use Rattle.nfit_reader.proofs.Indexes.{In}

-- if `find` fails, the test fails for each element
pub missed : {X : Type 0} (test : X → Bool) (xs : List X) (x : X) → find test xs ≡ None → In xs x → test x ≡ false
missed test [] x none i = absurd i
missed test (y ∷ ys) x none i =
    elim (cases_Bool (test y)) [
      | inl it ↦ absurd (none-some y (sym (rw it at none)))
      | inr not_it ↦
          elim i [
            | inl same ↦ subst (λ z. test z ≡ false) same not_it
            | inr on ↦ missed test ys x (rw not_it at none) on
          ]
    ]

no_alias_here : (f : DpaRange → NfitFault) (o : Option DpaRange) (rest : Option NfitFault) → unwrap_or (option_map (λ b. Some (f b)) o) rest ≡ None → (o ≡ None) × (rest ≡ None)
no_alias_here f None rest e = (refl, e)
no_alias_here f (Some b) rest e = absurd (none-some (f b) (sym e))

not_meeting : (a b : DpaRange) → is_alias a b ≡ false → a.«module» ≡ b.«module» → a.region ≢ b.region → meets a b ≡ false
unfolding is_alias
not_meeting a b e same other =
    let e' = rw (eq-eqb a.«module» b.«module» same, ne_eqb a.region b.region other) at e in e'

meets_back : (a b : DpaRange) → meets a b ≡ false → meets b a ≡ false
meets_back a b e =
    elim (cases_Bool (meets b a)) [
      | inl it ↦ absurd (true≢false (sym (lt-ltb (max a.start b.start) (min (a.start + a.size) (b.start + b.size)) (let lt = ltb-true (max b.start a.start) (min (b.start + b.size) (a.start + a.size)) it in omega arith)) ∙ e))
      | inr not_it ↦ not_it
    ]

-- in a table without aliases, two DPA ranges of one module and two regions share no byte
pub none_meet : (xs : List DpaRange) (a b : DpaRange) → alias_in xs ≡ None → In xs a → In xs b → a.«module» ≡ b.«module» → a.region ≢ b.region → meets a b ≡ false
unfolding alias_in
none_meet [] a b none i j same other = absurd i
none_meet (x ∷ xs) a b none i j same other =
    let parts = no_alias_here (λ c. fault.Alias x.«module» x.region c.region) (find (is_alias x) xs) (alias_in xs) none in
    elim i [
      | inl here ↦
          elim j [
            | inl here' ↦ absurd (other (ap (λ (e : DpaRange). e.region) (sym here ∙ here')))
            | inr on' ↦ not_meeting a b (subst (λ (e : DpaRange). is_alias e b ≡ false) here (missed (is_alias x) xs b parts.0 on')) same other
          ]
      | inr on ↦
          elim j [
            | inl here' ↦ meets_back b a (not_meeting b a (subst (λ (e : DpaRange). is_alias e a ≡ false) here' (missed (is_alias x) xs a parts.0 on)) (sym same) (λ e. other (sym e)))
            | inr on' ↦ none_meet xs a b parts.1 on on' same other
          ]
    ]

-- so one of them ends before the other starts
pub one_ends : (a b : DpaRange) → meets a b ≡ false → 0 < a.size → 0 < b.size → (a.start + a.size ≤ b.start) ⊎ (b.start + b.size ≤ a.start)
one_ends a b e some some' =
    let le : min (a.start + a.size) (b.start + b.size) ≤ max a.start b.start = ltb-false (max a.start b.start) (min (a.start + a.size) (b.start + b.size)) e in
    elim (cases_lt b.start (a.start + a.size)) [
      | inr first ↦ inl first
      | inl other ↦ inr (omega arith)
    ]
