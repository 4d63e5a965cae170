-- A read that was cut is left out of its lane's and its session's entries alike.
use Rattle.std.proofs.Common.{◌≡◌, ℕ, ◌≢◌, ◌==◌, inl, inr, List, [], ◌∷◌, ◌++◌, refl, sym, ap, ◌∙◌, subst, arith, if◌then◌else◌}
use Rattle.lane_core.specs.declared.history.Act.TheVariants as act
use Rattle.arena_open.specs.declared.cell.Cell.{Cell}
use Rattle.lane_core.specs.declared.history.Entry.{Entry}
use Rattle.lane_core.specs.History.{IsLegal, of_lane, of_session, end_of, after, changes_nothing}
use Rattle.lane_core.proofs.Past.{after_same}
use Rattle.lane_core.proofs.Put.{same_or_not}
use Rattle.lane_core.proofs.Finishing.{own_first, other_first, same_first, none_last, legal_rest, none_of, heads}

own_session : (q : ℕ) (d : Entry) (ds : List Entry) → d.tag.session ≡ q → of_session q (d ∷ ds) ≡ d ∷ of_session q ds
unfolding of_session
own_session q d ds e = grind arith

other_session : (q : ℕ) (d : Entry) (ds : List Entry) → d.tag.session ≢ q → of_session q (d ∷ ds) ≡ of_session q ds
unfolding of_session
other_session q d ds ne = grind arith

same_session : (q : ℕ) (d : Entry) (ds es : List Entry) → of_session q ds ≡ of_session q es → of_session q (d ∷ ds) ≡ of_session q (d ∷ es)
unfolding of_session
same_session q d ds es e = ap (λ r. if d.tag.session == q then d ∷ r else r) e

no_session : (q : ℕ) → of_session q [] ≡ []
unfolding of_session
no_session q = refl

cons_none : (x : Entry) (xs : List Entry) → x ∷ xs ≡ [] → ⊥
cons_none x xs q = cc

-- an entry that stands among a session's stands among its lane's
in_lane : (q l : ℕ) (ds ys : List Entry) (e : Entry) → of_session q ds ≡ ys ++ e ∷ [] → e.lane ≡ l → of_lane l ds ≡ [] → ⊥
in_lane q l [] ys e a el b = none_last ys e (sym (no_session q) ∙ a)
in_lane q l (d ∷ ds) ys e a el b = elim (same_or_not d.lane l) [
  | inl y ↦ cons_none d (of_lane l ds) (sym (own_first l d ds y) ∙ b)
  | inr n ↦ elim (same_or_not d.tag.session q) [
    | inl z ↦ first_other ys (sym (own_session q d ds z) ∙ a) (λ ys r. in_lane q l ds ys e r el (sym (other_first l d ds n) ∙ b)) n
    | inr z ↦ in_lane q l ds ys e (sym (other_session q d ds z) ∙ a) el (sym (other_first l d ds n) ∙ b)
  ]
]
  where
    first_other : (ys : List Entry) → d ∷ of_session q ds ≡ ys ++ e ∷ [] → ((ys : List Entry) → of_session q ds ≡ ys ++ e ∷ [] → ⊥) → d.lane ≢ l → ⊥
    first_other [] r go n = n (ap (λ (e : Entry). e.lane) (heads d e (of_session q ds) [] r).0 ∙ el)
    first_other (y ∷ ys) r go n = go ys (heads d y (of_session q ds) (ys ++ e ∷ []) r).1

in_session : (q l : ℕ) (ds xs : List Entry) (e : Entry) → of_lane l ds ≡ xs ++ e ∷ [] → e.tag.session ≡ q → of_session q ds ≡ [] → ⊥
in_session q l [] xs e a eq b = none_last xs e (sym (none_of l) ∙ a)
in_session q l (d ∷ ds) xs e a eq b = elim (same_or_not d.tag.session q) [
  | inl y ↦ cons_none d (of_session q ds) (sym (own_session q d ds y) ∙ b)
  | inr n ↦ elim (same_or_not d.lane l) [
    | inl z ↦ first_other xs (sym (own_first l d ds z) ∙ a) (λ xs r. in_session q l ds xs e r eq (sym (other_session q d ds n) ∙ b)) n
    | inr z ↦ in_session q l ds xs e (sym (other_first l d ds z) ∙ a) eq (sym (other_session q d ds n) ∙ b)
  ]
]
  where
    first_other : (xs : List Entry) → d ∷ of_lane l ds ≡ xs ++ e ∷ [] → ((xs : List Entry) → of_lane l ds ≡ xs ++ e ∷ [] → ⊥) → d.tag.session ≢ q → ⊥
    first_other [] r go n = n (ap (λ (e : Entry). e.tag.session) (heads d e (of_lane l ds) [] r).0 ∙ eq)
    first_other (y ∷ xs) r go n = go xs (heads d y (of_lane l ds) (xs ++ e ∷ []) r).1

-- h without the last entry of the lane l and of the session q, a read
pub record BothDropped (l q : ℕ) (h xs ys : List Entry) (o : ℕ → Cell) : Type 0 where
  pub rest : List Entry
  pub lane : of_lane l rest ≡ xs
  pub session : of_session q rest ≡ ys
  pub lanes : (m : ℕ) → m ≢ l → of_lane m rest ≡ of_lane m h
  pub sessions : (m : ℕ) → m ≢ q → of_session m rest ≡ of_session m h
  pub legal : IsLegal o rest
  pub same : end_of o rest ≡ end_of o h

stays : (l q : ℕ) (d : Entry) (ds us vs xs ys : List Entry) (o : ℕ → Cell) → IsLegal o (d ∷ ds) → (r : BothDropped l q ds us vs (after o d)) → of_lane l (d ∷ r.rest) ≡ xs → of_session q (d ∷ r.rest) ≡ ys → BothDropped l q (d ∷ ds) xs ys o
unfolding IsLegal end_of
stays l q d ds us vs xs ys o legal r a b = record {
  rest = d ∷ r.rest;
  lane = a;
  session = b;
  lanes = λ m ne. same_first m d r.rest ds (r.lanes m ne);
  sessions = λ m ne. same_session m d r.rest ds (r.sessions m ne);
  legal = (legal.0, r.legal);
  same = r.same;
}

goes : (l q : ℕ) (d : Entry) (ds : List Entry) (c : Cell) (o : ℕ → Cell) → d.lane ≡ l → d.tag.session ≡ q → d.act ≡ act.Read c → of_lane l ds ≡ [] → of_session q ds ≡ [] → IsLegal o (d ∷ ds) → BothDropped l q (d ∷ ds) [] [] o
unfolding IsLegal end_of
goes l q d ds c o own mine a none nothing legal =
    let still : after o d ≡ o = after_same o d (ap changes_nothing a) in
    record {
      rest = ds;
      lane = none;
      session = nothing;
      lanes = λ m ne. sym (other_first m d ds (λ z. ne (sym z ∙ own)));
      sessions = λ m ne. sym (other_session m d ds (λ z. ne (sym z ∙ mine)));
      legal = subst (λ f. IsLegal f ds) still legal.1;
      same = ap (λ f. end_of f ds) (sym still);
    }

-- how a list with e at its end begins
data Begins (d e : Entry) (ds zs : List Entry) : Type 0 where
  Last : zs ≡ [] → d ≡ e → ds ≡ [] → Begins d e ds zs
  More : (ws : List Entry) → zs ≡ d ∷ ws → ds ≡ ws ++ e ∷ [] → Begins d e ds zs

begins : (d e : Entry) (ds zs : List Entry) → d ∷ ds ≡ zs ++ e ∷ [] → Begins d e ds zs
begins d e ds [] q = let r = heads d e ds [] q in Last refl r.0 r.1
begins d e ds (z ∷ zs) q = let r = heads d z ds (zs ++ e ∷ []) q in More zs (ap (λ d. d ∷ zs) (sym r.0)) r.1

pub drop_both : (l q : ℕ) (h xs ys : List Entry) (e : Entry) (c : Cell) (o : ℕ → Cell) → e.lane ≡ l → e.tag.session ≡ q → of_lane l h ≡ xs ++ e ∷ [] → of_session q h ≡ ys ++ e ∷ [] → e.act ≡ act.Read c → IsLegal o h → BothDropped l q h xs ys o
drop_both l q [] xs ys e c o el es a b act legal = absurd (none_last xs e (sym (none_of l) ∙ a))
drop_both l q (d ∷ ds) xs ys e c o el es a b act legal =
    elim (same_or_not d.lane l) [
      | inl y ↦ elim (same_or_not d.tag.session q) [
        | inl z ↦ elim (begins d e (of_lane l ds) xs (sym (own_first l d ds y) ∙ a)) [
          | Last x0 de none ↦ elim (begins d e (of_session q ds) ys (sym (own_session q d ds z) ∙ b)) [
            | Last y0 df nothing ↦ subst (λ xs. BothDropped l q (d ∷ ds) xs ys o) (sym x0) (subst (λ ys. BothDropped l q (d ∷ ds) [] ys o) (sym y0) (goes l q d ds c o y z (ap (λ (e : Entry). e.act) de ∙ act) none nothing legal))
            | More ws yw r ↦ absurd (in_lane q l ds ws e r el none)
          ]
          | More us xu r ↦ elim (begins d e (of_session q ds) ys (sym (own_session q d ds z) ∙ b)) [
            | Last y0 df nothing ↦ absurd (in_session q l ds us e r es nothing)
            | More ws yw t ↦ let k = drop_both l q ds us ws e c (after o d) el es r t act (legal_rest d ds o legal) in
                stays l q d ds us ws xs ys o legal k (own_first l d k.rest y ∙ ap (λ r. d ∷ r) k.lane ∙ sym xu) (own_session q d k.rest z ∙ ap (λ r. d ∷ r) k.session ∙ sym yw)
          ]
        ]
        | inr z ↦ elim (begins d e (of_lane l ds) xs (sym (own_first l d ds y) ∙ a)) [
          | Last x0 de none ↦ absurd (z (ap (λ (e : Entry). e.tag.session) de ∙ es))
          | More us xu r ↦ let k = drop_both l q ds us ys e c (after o d) el es r (sym (other_session q d ds z) ∙ b) act (legal_rest d ds o legal) in
              stays l q d ds us ys xs ys o legal k (own_first l d k.rest y ∙ ap (λ r. d ∷ r) k.lane ∙ sym xu) (other_session q d k.rest z ∙ k.session)
        ]
      ]
      | inr n ↦ elim (same_or_not d.tag.session q) [
        | inl z ↦ elim (begins d e (of_session q ds) ys (sym (own_session q d ds z) ∙ b)) [
          | Last y0 df nothing ↦ absurd (n (ap (λ (e : Entry). e.lane) df ∙ el))
          | More ws yw t ↦ let k = drop_both l q ds xs ws e c (after o d) el es (sym (other_first l d ds n) ∙ a) t act (legal_rest d ds o legal) in
              stays l q d ds xs ws xs ys o legal k (other_first l d k.rest n ∙ k.lane) (own_session q d k.rest z ∙ ap (λ r. d ∷ r) k.session ∙ sym yw)
        ]
        | inr z ↦ let k = drop_both l q ds xs ys e c (after o d) el es (sym (other_first l d ds n) ∙ a) (sym (other_session q d ds z) ∙ b) act (legal_rest d ds o legal) in
            stays l q d ds xs ys xs ys o legal k (other_first l d k.rest n ∙ k.lane) (other_session q d k.rest z ∙ k.session)
      ]
    ]
