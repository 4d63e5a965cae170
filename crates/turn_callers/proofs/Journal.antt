-- A journal that is one entry longer.
use Rattle.std.proofs.Common.{◌≡◌, ◌≢◌, ℕ, zero, suc, ◌+◌, ◌-◌, ◌<◌, List, [], ◌∷◌, ◌++◌, length, get_or, Bool, true, false, refl, sym, ap, ◌∙◌, arith, eq-eqb, get_or-set_other, get_or-set_same, take, length-take}
use Rattle.std.specs.Prelude.{◌==◌, ◌&&◌, sum, slice_index, slice_set}
use Rattle.std.proofs.lemmas.List.{take_more}
use Rattle.std.proofs.lemmas.List.Sums.{sum_by-set}
use Rattle.turn_lock.proofs.Journals.{own_push, other_push}
use Rattle.turn_callers.specs.declared.register.RegisterCall.{RegisterCall}
use Rattle.turn_callers.specs.declared.register.RegisterEntry.{RegisterEntry}
use Rattle.turn_callers.specs.Replay.{value_after, reply_of, value_of, is_legal, entry, entries_by, made}
use Rattle.turn_callers.specs.Shares.{share, share_at}

pub value_of-push : (v : ℕ) (es : List RegisterEntry) (e : RegisterEntry) → value_of v (es ++ e ∷ []) ≡ value_after (value_of v es) e.call
value_of-push v [] e = refl
value_of-push v (x ∷ es) e = value_of-push (value_after v x.call) es e

pub is_legal-push : (v : ℕ) (es : List RegisterEntry) (e : RegisterEntry) → is_legal v es ≡ true → e.reply ≡ reply_of (value_of v es) e.call → is_legal v (es ++ e ∷ []) ≡ true
is_legal-push v [] e legal right = ap (λ (b : Bool). b && true) (eq-eqb e.reply v right)
is_legal-push v (x ∷ es) e legal right = step_in (x.reply == reply_of v x.call) (is_legal (value_after v x.call) es) (is_legal (value_after v x.call) (es ++ e ∷ [])) legal (λ l. is_legal-push (value_after v x.call) es e l right)
  where
    step_in : (a b c : Bool) → (a && b) ≡ true → (b ≡ true → c ≡ true) → (a && c) ≡ true
    step_in true b c h f = f h
    step_in false b c h f = h

pub room_left : (rooms : List ℕ) (i : ℕ) → 0 < slice_index rooms i → i < length rooms → sum (slice_set rooms i (slice_index rooms i - 1)) + 1 ≡ sum rooms
room_left rooms i some inside = let s = sum_by-set (λ (n : ℕ). n) rooms i (slice_index rooms i - 1) 0 inside in omega arith

pub has_room : (rooms : List ℕ) (i : ℕ) → 0 < slice_index rooms i → i < length rooms
has_room [] i h = absurd (omega arith)
has_room (x ∷ rooms) zero h = omega arith
has_room (x ∷ rooms) (suc i) h = let r = has_room rooms i h in omega arith

pub entries_by-push : (q : ℕ) (es : List RegisterEntry) (c : RegisterCall) (r : ℕ) → entries_by q (es ++ entry q c r ∷ []) ≡ entries_by q es ++ entry q c r ∷ []
entries_by-push q es c r = own_push (λ e. e.by) q es (entry q c r) refl

pub entries_by-other : (q by : ℕ) (es : List RegisterEntry) (c : RegisterCall) (r : ℕ) → by ≢ q → entries_by q (es ++ entry by c r ∷ []) ≡ entries_by q es
entries_by-other q by es c r other = other_push (λ e. e.by) q es (entry by c r) other

-- the part of another caller stays, and the caller's own has one entry more and room for one less
pub share_at-other : (journal : List RegisterEntry) (rooms : List ℕ) (by q : ℕ) (c : RegisterCall) (r n : ℕ) → q ≢ by → share_at (journal ++ entry by c r ∷ []) (slice_set rooms by n) q ≡ share_at journal rooms q
share_at-other journal rooms by q c r n ne = λ i. share (entries_by-other q by journal c r (λ e. ne (sym e)) i) (get_or-set_other rooms by q n 0 ne i)

pub share_at-own : (journal : List RegisterEntry) (rooms : List ℕ) (by : ℕ) (c : RegisterCall) (r n : ℕ) → by < length rooms → share_at (journal ++ entry by c r ∷ []) (slice_set rooms by n) by ≡ share (entries_by by journal ++ entry by c r ∷ []) n
share_at-own journal rooms by c r n inside = λ i. share (entries_by-push by journal c r i) (get_or-set_same rooms by n 0 inside i)

pub made-push : (q : ℕ) (cs : List RegisterCall) (rs : List ℕ) (c : RegisterCall) (r : ℕ) → length cs ≡ length rs → made q (cs ++ c ∷ []) (rs ++ r ∷ []) ≡ made q cs rs ++ entry q c r ∷ []
made-push q [] [] c r e = refl
made-push q [] (y ∷ rs) c r e = absurd (omega arith)
made-push q (x ∷ cs) [] c r e = absurd (omega arith)
made-push q (x ∷ cs) (y ∷ rs) c r e = ap (λ es. entry q x y ∷ es) (made-push q cs rs c r (omega arith))

-- the part after one more call of a script
pub next_part : (n i : ℕ) (calls : List RegisterCall) (rs : List ℕ) (d : RegisterCall) (r : ℕ) → i < length calls → length rs ≡ i
    → share (made n (take i calls) rs ++ entry n (get_or calls i d) r ∷ []) ((length calls - i) - 1) ≡ share (made n (take (i + 1) calls) (rs ++ r ∷ [])) (length calls - (i + 1))
next_part n i calls rs d r inside count =
    let front : length (take i calls) ≡ length rs = omega (arith, length-take i calls) in
    let room : (length calls - i) - 1 ≡ length calls - (i + 1) = omega arith in
    let es : made n (take (i + 1) calls) (rs ++ r ∷ []) ≡ made n (take i calls) rs ++ entry n (get_or calls i d) r ∷ [] =
    ap (λ (cs : List RegisterCall). made n cs (rs ++ r ∷ [])) (take_more calls i d inside) ∙ made-push n (take i calls) rs (get_or calls i d) r front in
    λ j. share (sym es j) (room j)
