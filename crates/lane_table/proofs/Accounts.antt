-- The history of a run that has ended, for lanes and sessions at once: without the unfinished reads
-- it has what the lanes' logs and the sessions' passes have.
use Rattle.std.proofs.Common.{◌≡◌, ℕ, ◌<◌, ◌≤◌, ◌≢◌, inl, inr, zero, suc, Bool, true, false, List, [], ◌∷◌, ◌++◌, length, drop, refl, sym, ap, ◌∙◌, subst, arith}
use lib.ListN.{get_elem?}
use Rattle.arena_open.specs.declared.cell.Cell.{Cell}
use Rattle.arena_open.specs.declared.cell.Cell.TheVariants as cell
use Rattle.lane_core.specs.declared.history.Entry.{Entry}
use Rattle.lane_core.specs.declared.shape.Shape.{Shape}
use Rattle.lane_core.specs.Finished.{IsAccount}
use Rattle.lane_core.specs.History.{cell_of, end_of, listed, of_lane, of_session, IsLegal}
use Rattle.lane_core.specs.Invariant.{IsSound, is_reading, only_if, open_entry}
use Rattle.lane_core.specs.Machine.{State, looked}
use Rattle.lane_core.specs.Places.{geometry}
use Rattle.lane_core.proofs.Finishing.{heads, none_last}
use Rattle.lane_core.proofs.Past.{append_none}
use Rattle.lane_core.proofs.Put.{never, same_or_not}
use Rattle.lane_table.specs.declared.table.PassPart.{PassPart}
use Rattle.lane_table.specs.declared.table.View.{View}
use Rattle.lane_table.specs.Law.{On, Covers, Passes, IsLoose, IsHeld, unlogged}
use Rattle.lane_table.proofs.Dropping.{drop_both}
use Rattle.lane_table.proofs.Passes.{on_apart, loose_apart, drop_all, drop_most, of_session-one, of_session-none, of_session-nothing}

same_front : (xs ys : List Entry) (e : Entry) → xs ++ e ∷ [] ≡ ys ++ e ∷ [] → xs ≡ ys
same_front [] [] e q = refl
same_front [] (y ∷ ys) e q = absurd (none_last ys e (heads e y [] (ys ++ e ∷ []) q).1)
same_front (x ∷ xs) [] e q = absurd (none_last xs e (sym (heads x e (xs ++ e ∷ []) [] q).1))
same_front (x ∷ xs) (y ∷ ys) e q = let r = heads x y (xs ++ e ∷ []) (ys ++ e ∷ []) q in ap (λ z. z ∷ xs) r.0 ∙ ap (λ zs. y ∷ zs) (same_front xs ys e r.1)

split_at : (l n : ℕ) → l < suc n → l ≢ n → l < n
split_at l n lt ne = omega arith

module _ (x : Shape) (o : ℕ → Cell) (views : List View) (s : State) (h : IsSound (geometry x) o s) (p : Passes views s.lanes s.history) where
  abbrev open_of : ℕ → Entry
  open_of l = open_entry x.width (s.seen.data_at (looked (s.lanes l))) l (s.lanes l).tag (s.lanes l).sector

  abbrev session_of : ℕ → ℕ
  session_of l = (s.lanes l).tag.session

  left_open : (l : ℕ) → l < x.lanes → is_reading (s.lanes l).phase ≡ true → unlogged (s.lanes l).log l s.history ≡ open_of l ∷ []
  left_open l lt r = ap (drop (length (s.lanes l).log)) ((h.each l lt).tells.entries ∙ ap (λ b. (s.lanes l).log ++ only_if b (open_of l)) r) ∙ drop_most (s.lanes l).log (open_of l ∷ [])

  left_none : (l : ℕ) → l < x.lanes → is_reading (s.lanes l).phase ≡ false → unlogged (s.lanes l).log l s.history ≡ []
  left_none l lt r = ap (drop (length (s.lanes l).log)) ((h.each l lt).tells.entries ∙ ap (λ b. (s.lanes l).log ++ only_if b (open_of l)) r ∙ append_none (s.lanes l).log) ∙ drop_all (s.lanes l).log

  -- an unfinished read is its session's last entry
  record IsLast (l : ℕ) : Type 0 where
    home : p.homes (session_of l) ≡ On l
    before : List Entry
    last : of_session (session_of l) s.history ≡ before ++ open_of l ∷ []

  is_last : (l : ℕ) → l < x.lanes → is_reading (s.lanes l).phase ≡ true → IsLast l
  is_last l lt r =
      let q = left_open l lt r in
      let u = p.unfinished l 0 (open_of l) (ap (λ es. get_elem? es 0) q) in
      record { home = u.0; before = u.1; last = u.2 ∙ ap (λ es. u.1 ++ of_session (session_of l) es) q ∙ ap (λ es. u.1 ++ es) (of_session-one (session_of l) (open_of l) refl) }

  -- two lanes don't read for one session
  apart : (l m : ℕ) → l ≢ m → IsLast l → IsLast m → session_of l ≢ session_of m
  apart l m ne a b q = on_apart m l ne (sym a.home ∙ ap p.homes q ∙ b.home)

  -- no lane below n reads for the session
  abbrev Free : ℕ → ℕ → Type 0
  Free n q = (l : ℕ) → l < n → is_reading (s.lanes l).phase ≡ true → session_of l ≢ q

  -- the open reads of the first n lanes are left out
  record Sofar (n : ℕ) : Type 0 where
    past : List Entry
    legal : IsLegal o past
    done : (l : ℕ) → l < n → of_lane l past ≡ (s.lanes l).log
    todo : (l : ℕ) → n ≤ l → of_lane l past ≡ of_lane l s.history
    same : end_of o past ≡ end_of o s.history
    others : (q : ℕ) → Free n q → of_session q past ≡ of_session q s.history
    ended : (l : ℕ) → l < n → (lt : l < x.lanes) → (r : is_reading (s.lanes l).phase ≡ true) → of_session (session_of l) past ≡ (is_last l lt r).before

  more : (n : ℕ) → (lt : n < x.lanes) → (b : Bool) → is_reading (s.lanes n).phase ≡ b → Sofar n → Sofar (suc n)
  more n lt true is r =
      let mine : of_lane n r.past ≡ (s.lanes n).log ++ open_of n ∷ [] = r.todo n (omega arith) ∙ (h.each n lt).tells.entries ∙ ap (λ b. (s.lanes n).log ++ only_if b (open_of n)) is in
      let last = is_last n lt is in
      let free : Free n (session_of n) = λ l ll rd. apart l n (λ z. omega arith) (is_last l (omega arith) rd) last in
      let d = drop_both n (session_of n) r.past (s.lanes n).log last.before (open_of n) (cell.Bytes (listed x.width (s.seen.data_at (looked (s.lanes n))))) o refl refl mine (r.others (session_of n) free ∙ last.last) refl r.legal in
      record {
        past = d.rest;
        legal = d.legal;
        done = λ l ll. elim (same_or_not l n) [
          | inl z ↦ subst (λ l. of_lane l d.rest ≡ (s.lanes l).log) (sym z) d.lane
          | inr z ↦ d.lanes l z ∙ r.done l (split_at l n ll z)
        ];
        todo = λ l le. d.lanes l (λ z. omega arith) ∙ r.todo l (omega arith);
        same = d.same ∙ r.same;
        others = λ q f. d.sessions q (λ z. f n (omega arith) is (sym z)) ∙ r.others q (λ l ll. f l (omega arith));
        ended = λ l ll lx rd. elim (same_or_not l n) [
          | inl z ↦ at_n l lx rd d.rest z d.session
          | inr z ↦ d.sessions (session_of l) (apart l n z (is_last l lx rd) last) ∙ r.ended l (split_at l n ll z) lx rd
        ];
      }
    where
      at_n : (l : ℕ) (lx : l < x.lanes) (rd : is_reading (s.lanes l).phase ≡ true) (rest : List Entry) → l ≡ n → of_session (session_of n) rest ≡ (is_last n lt is).before → of_session (session_of l) rest ≡ (is_last l lx rd).before
      at_n l lx rd rest z e =
          ap (λ l. of_session (session_of l) rest) z ∙ e
          ∙ same_front (is_last n lt is).before (is_last l lx rd).before (open_of n)
          (sym (is_last n lt is).last ∙ ap (λ l. of_session (session_of l) s.history) (sym z) ∙ (is_last l lx rd).last ∙ ap (λ l'. (is_last l lx rd).before ++ open_of l' ∷ []) z)
  more n lt false is r =
      record {
        past = r.past;
        legal = r.legal;
        done = λ l ll. elim (same_or_not l n) [
          | inl z ↦ subst (λ l. of_lane l r.past ≡ (s.lanes l).log) (sym z)
              (r.todo n (omega arith) ∙ (h.each n lt).tells.entries ∙ ap (λ b. (s.lanes n).log ++ only_if b (open_of n)) is ∙ append_none (s.lanes n).log)
          | inr z ↦ r.done l (split_at l n ll z)
        ];
        todo = λ l le. r.todo l (omega arith);
        same = r.same;
        others = λ q f. r.others q (λ l ll. f l (omega arith));
        ended = λ l ll lx rd. r.ended l (split_at l n ll (λ z. never (sym is ∙ ap (λ l. is_reading (s.lanes l).phase) (sym z) ∙ rd))) lx rd;
      }

  sofar : (n : ℕ) → n ≤ x.lanes → Sofar n
  sofar zero le =
      record { past = s.history; legal = h.legal; done = λ l lt. absurd (omega arith); todo = λ l le. refl; same = refl; others = λ q f. refl; ended = λ l lt. absurd (omega arith) }
  sofar (suc n) le = more n (omega arith) (is_reading (s.lanes n).phase) refl (sofar n (omega arith))

  -- a history that has what the lanes' logs and the passes have
  pub record Accounts : Type 0 where
    pub past : List Entry
    pub account : IsAccount (geometry x) o (cell_of (geometry x) s.seen.data_at s.seen.map_at) (λ l. (s.lanes l).log) past
    pub loose : (i k q : ℕ) (t : PassPart) → Covers t q → IsLoose p.homes s.history i k t → of_session q past ≡ t.entries
    pub held : (l : ℕ) (t : PassPart) → l < x.lanes → IsHeld p.homes s.history l (s.lanes l).log t → of_session t.session past ≡ t.entries

  module _ (r : Sofar x.lanes) where
    loose_past : (i k q : ℕ) (t : PassPart) → Covers t q → IsLoose p.homes s.history i k t → of_session q r.past ≡ t.entries
    loose_past i k q t c u =
        r.others q (λ l lt rd z. loose_apart i k l (sym (u q c).0 ∙ ap p.homes (sym z) ∙ (is_last l lt rd).home)) ∙ (u q c).1

    -- no other lane reads for the session of a pass that lane l holds
    free : (l q : ℕ) → p.homes q ≡ On l → (is_reading (s.lanes l).phase ≡ true → session_of l ≢ q) → Free x.lanes q
    free l q home not m lt rd z = elim (same_or_not m l) [
      | inl e ↦ not (ap (λ l. is_reading (s.lanes l).phase) (sym e) ∙ rd) (ap session_of (sym e) ∙ z)
      | inr ne ↦ on_apart l m ne (sym (is_last m lt rd).home ∙ ap p.homes z ∙ home)
    ]

    held_past : (l : ℕ) (t : PassPart) → (lt : l < x.lanes) → IsHeld p.homes s.history l (s.lanes l).log t → (b : Bool) → is_reading (s.lanes l).phase ≡ b → of_session t.session r.past ≡ t.entries
    held_past l t lt u false rd =
        r.others t.session (free l t.session u.0 (λ z. never (sym rd ∙ z))) ∙ u.1 ∙ ap (λ es. t.entries ++ of_session t.session es) (left_none l lt rd) ∙ ap (λ es. t.entries ++ es) (of_session-nothing t.session) ∙ append_none t.entries
    held_past l t lt u true rd = elim (same_or_not (session_of l) t.session) [
      | inl z ↦ ap (λ q. of_session q r.past) (sym z) ∙ r.ended l lt lt rd
          ∙ same_front (is_last l lt rd).before t.entries (open_of l)
          (sym (is_last l lt rd).last ∙ ap (λ q. of_session q s.history) z ∙ u.1 ∙ ap (λ es. t.entries ++ of_session t.session es) (left_open l lt rd) ∙ ap (λ es. t.entries ++ es) (of_session-one t.session (open_of l) z))
      | inr ne ↦ r.others t.session (free l t.session u.0 (λ _. ne)) ∙ u.1 ∙ ap (λ es. t.entries ++ of_session t.session es) (left_open l lt rd)
          ∙ ap (λ es. t.entries ++ es) (of_session-none t.session (open_of l) ne) ∙ append_none t.entries
    ]

    accounts_by : Accounts
    accounts_by =
        record {
          past = r.past;
          account = record {
            legal = r.legal;
            each = r.done;
            no_other = λ l le. r.todo l le ∙ h.known_lanes l le;
            leaves = λ t lt. ap (λ f. f t) r.same ∙ h.cells t lt;
          };
          loose = loose_past;
          held = λ l t lt u. held_past l t lt u (is_reading (s.lanes l).phase) refl;
        }

  pub accounts : Accounts
  accounts = accounts_by (sofar x.lanes (omega arith))
