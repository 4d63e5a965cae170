-- A sector call adds its entry to the arena of its sector, and nothing elsewhere.
use Rattle.std.proofs.Common.{◌≡◌, ◌≢◌, ◌⊎◌, inl, inr, ℕ, zero, suc, Bool, true, false, ◌&&◌, ◌++◌, Option, Some, None, refl, sym, ap, ◌∙◌, subst, arith, ne_eqb, append-nil}
use Rattle.std.specs.Prelude.{◌==◌, if◌then◌else◌, option_to_list}
use Rattle.namespace_ops.specs.Entries.{JournalEntry}
use Rattle.lane_core.specs.declared.history.Act.{Act}
use Rattle.lane_core.specs.declared.history.Act.TheVariants as act
use Rattle.session_script.specs.declared.script.Line.TheVariants as line
use Rattle.session_account.specs.declared.reply.Reply.TheVariants as reply
use Rattle.session_account.specs.Serving.{Spot, IsArena, arenas_of, spot_in}
use Rattle.session_account.specs.Made.{made}
use Rattle.session_account.specs.Sectors.{Stand, act_for, on_spot, size_of, stand_as, stand_by, stand_of, wrong_length, words_of}
use Rattle.session_account.specs.Going.{StandsHere, WritesSame, CallEnds, CallStops}

pub stands_here : StandsHere
stands_here all m spot p n is apart = ap (stand_by p n m) is ∙ by apart
  where
    none_if : (b : Bool) → b ≡ false → (if b then stand_as m.call spot.own (act_for m.line m.reply spot.shape) else None) ≡ None
    none_if true e = absurd (cc)
    none_if false e = refl

    by : (p ≢ spot.place) ⊎ (n ≢ spot.arena) → stand_by p n m (Some spot) ≡ None
    by (inl other) = none_if _ (ap (λ (b : Bool). b && (spot.arena == n)) (ne_eqb spot.place p (λ e. other (sym e))))
    by (inr other) = none_if _ (and_false (spot.place == p) (spot.arena == n) (ne_eqb spot.arena n (λ e. other (sym e))))
      where
        and_false : (a b : Bool) → b ≡ false → (a && b) ≡ false
        and_false true b e = e
        and_false false b e = refl

-- the same place, or another
where_is : (p n place k : ℕ) → ((p ≡ place) × (n ≡ k)) ⊎ ((p ≢ place) ⊎ (n ≢ k))
where_is p n place k = by (same p place) (same n k)
  where
    same : (a b : ℕ) → (a ≡ b) ⊎ (a ≢ b)
    same zero zero = inl refl
    same zero (suc b) = inr (omega arith)
    same (suc a) zero = inr (omega arith)
    same (suc a) (suc b) = next (same a b)
      where
        next : (a ≡ b) ⊎ (a ≢ b) → (suc a ≡ suc b) ⊎ (suc a ≢ suc b)
        next (inl e) = inl (omega (arith, e))
        next (inr ne) = inr (λ e. ne (omega (arith, e)))

    by : (p ≡ place) ⊎ (p ≢ place) → (n ≡ k) ⊎ (n ≢ k) → ((p ≡ place) × (n ≡ k)) ⊎ ((p ≢ place) ⊎ (n ≢ k))
    by (inl e) (inl f) = inl (e, f)
    by (inl e) (inr f) = inr (inr f)
    by (inr e) f = inr (inl e)

pub call_ends : CallEnds
call_ends all q m spot entries before now left left' is none uncut checked kind here others paid = record {
  uncut = uncut;
  checked = checked;
  kind = kind;
  commands = sym (ap (λ (o : Option JournalEntry). entries ++ option_to_list o) none ∙ append-nil entries);
  arenas = λ p n there. by p n there (where_is p n spot.place spot.arena);
  paid = paid;
}
  where
    by : (p n : ℕ) → IsArena all p n → ((p ≡ spot.place) × (n ≡ spot.arena)) ⊎ ((p ≢ spot.place) ⊎ (n ≢ spot.arena)) → now p n ≡ before p n ++ option_to_list (stand_of all p n m)
    by p n there (inl e) = subst (λ (a : ℕ). now a n ≡ before a n ++ option_to_list (stand_of all a n m)) (sym e.0) (subst (λ (b : ℕ). now spot.place b ≡ before spot.place b ++ option_to_list (stand_of all spot.place b m)) (sym e.1) here)
    by p n there (inr apart) = others p n there apart ∙ sym (ap (λ (o : Option Stand). before p n ++ option_to_list o) (stands_here all m spot p n is apart) ∙ append-nil (before p n))

pub call_stops : CallStops
call_stops all q m spot entries before now is none cut here others = record {
  cut = cut;
  commands = inl refl;
  arenas = λ p n there. by p n there (where_is p n spot.place spot.arena);
}
  where
    by : (p n : ℕ) → IsArena all p n → ((p ≡ spot.place) × (n ≡ spot.arena)) ⊎ ((p ≢ spot.place) ⊎ (n ≢ spot.arena)) → (now p n ≡ before p n) ⊎ (now p n ≡ before p n ++ option_to_list (stand_of all p n m))
    by p n there (inl e) =
        subst (λ (a : ℕ). (now a n ≡ before a n) ⊎ (now a n ≡ before a n ++ option_to_list (stand_of all a n m))) (sym e.0)
        (subst (λ (b : ℕ). (now spot.place b ≡ before spot.place b) ⊎ (now spot.place b ≡ before spot.place b ++ option_to_list (stand_of all spot.place b m))) (sym e.1) here)
    by p n there (inr apart) = inl (others p n there apart)

-- ---- writes

fits : (said had : ℕ) → wrong_length said had ≡ None → (said == had) ≡ true
fits said had h = by (said == had) h
  where
    by : (b : Bool) → (if b then None else Some (reply.Length said had)) ≡ None → b ≡ true
    by true h = refl
    by false h = absurd (cc)

pub writes_same : WritesSame
writes_same all place k call None sector value allowed = absurd (cc)
writes_same all place k call (Some uuid) sector value allowed = by (spot_in all uuid sector) allowed
  where
    by : (o : Option Spot) → on_spot (arenas_of all uuid) o (λ shape. wrong_length (size_of value shape.bytes) shape.bytes) ≡ None
        → stand_by place k (made call (Some uuid) (line.Write sector value) reply.Done) o ≡ stand_by place k (made call (Some uuid) (line.Write sector value) reply.Cut) o
    by None h = absurd (cc)
    by (Some spot) h =
        let same : act_for (line.Write sector value) reply.Done spot.shape ≡ act_for (line.Write sector value) reply.Cut spot.shape = sym (ap (λ (b : Bool). if b then Some (act.Write (words_of value spot.shape.bytes)) else None) (fits (size_of value spot.shape.bytes) spot.shape.bytes h)) in
        ap (λ (a : Option Act). if (spot.place == place) && (spot.arena == k) then stand_as call spot.own a else None) same
