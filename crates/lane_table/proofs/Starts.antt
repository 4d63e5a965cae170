-- The rule holds of a table that was just made.
use Rattle.std.proofs.Common.{◌≡◌, ℕ, ◌+◌, ◌*◌, ◌<◌, zero, suc, List, [], ◌∷◌, ◌++◌, length, refl, sym, ap, ◌∙◌, subst, arith, get_or, slice_index, replicate, length-append}
use Rattle.std.proofs.lemmas.List.{get_or_append_left, get_or-append-add, length-replicate, get_or-replicate}
use mathlib.Core.Option.{some, some-injective, some-ne-none}
use lib.ListN.{get_elem?}
use Rattle.atomic_table.specs.Table.{opening}
use Rattle.lane_core.specs.declared.shape.Shape.{Shape}
use Rattle.lane_core.specs.Machine.{State}
use Rattle.lane_core.specs.Opening.{opened}
use Rattle.lane_core.specs.Places.{IsShape, SeenData, KeptData, SeenMap, KeptMap, SeenA, KeptA, SeenB, KeptB, Reader, Lock, reader_place, reader_words, row_size, Shows, geometry}
use Rattle.lane_core.proofs.Beginning.{opened_sound}
use Rattle.lane_core.proofs.Places.{data_in, reader_in}
use Rattle.lane_table.specs.declared.table.Key.{Key}
use Rattle.lane_core.specs.declared.history.Entry.{Entry}
use Rattle.lane_core.specs.History.{of_lane, of_session}
use Rattle.lane_table.specs.declared.table.Owned.{Owned}
use Rattle.lane_table.specs.declared.table.PassPart.{PassPart}
use Rattle.lane_table.specs.declared.table.View.{View}
use Rattle.lane_table.specs.Begun.{IsBegun, row_of}
use Rattle.lane_table.specs.Law.{holds, first, opened_from, opened_owned, Seats, Passes, Loose, unmade_from, unlogged, rising, owned, areas_in, words_of, side_of}

-- ---- the words

module _ (x : Shape) (words : List ℕ) (h : IsShape x) (size : length words ≡ x.total) where
  zeros : List ℕ
  zeros = replicate (reader_words x.lanes + x.lanes) 0

  pub seen_word : (i : ℕ) → i < x.total → slice_index (row_of x words) i ≡ slice_index words i
  seen_word i lt = let a : i < length words = omega (arith, size) in let b : i < length (words ++ words) = omega (arith, length-append words words) in
      get_or_append_left (words ++ words) (replicate (reader_words x.lanes + x.lanes) 0) 0 i b ∙ get_or_append_left words words 0 i a

  pub kept_word : (i : ℕ) → i < x.total → slice_index (row_of x words) (x.total + i) ≡ slice_index words i
  kept_word i lt = let b : x.total + i < length (words ++ words) = omega (arith, length-append words words, size) in
      get_or_append_left (words ++ words) (replicate (reader_words x.lanes + x.lanes) 0) 0 (x.total + i) b ∙ ap (λ n. get_or (words ++ words) (n + i) 0) (sym size) ∙ get_or-append-add words words i 0

  twice : length (words ++ words) ≡ 2 * x.total
  twice = omega (arith, length-append words words, size)

  pub zero_word : (i : ℕ) → i < reader_words x.lanes + x.lanes → slice_index (row_of x words) (2 * x.total + i) ≡ 0
  zero_word i lt = ap (λ n. get_or (row_of x words) (n + i) 0) (sym twice) ∙ get_or-append-add (words ++ words) (replicate (reader_words x.lanes + x.lanes) 0) i 0 ∙ get_or-replicate (reader_words x.lanes + x.lanes) i 0 0 lt

  pub row_length : length (row_of x words) ≡ row_size x
  row_length = omega (arith, length-append (words ++ words) (replicate (reader_words x.lanes + x.lanes) 0), twice, length-replicate {A = ℕ} (reader_words x.lanes + x.lanes) 0)

-- ---- the lanes

pub opened_at : (k : Key) (n c j : ℕ) (o : Owned) → get_elem? (opened_from k n c) j ≡ some o → (j < c) × (o ≡ opened_owned k (n + j))
opened_at k n zero j o e = absurd (some-ne-none o (sym e))
opened_at k n (suc c) zero o e = (omega arith, sym (some-injective _ o e) ∙ ap (opened_owned k) (omega arith))
opened_at k n (suc c) (suc j) o e = let r = opened_at k (suc n) c j o e in (omega (arith, r.0), r.1 ∙ ap (opened_owned k) (omega arith))

only_first : (v u : View) (i : ℕ) → get_elem? (v ∷ []) i ≡ some u → (i ≡ 0) × (v ≡ u)
only_first v u zero e = (refl, some-injective v u e)
only_first v u (suc i) e = absurd (some-ne-none u (sym e))

only_loose : (t u : PassPart) (i : ℕ) → get_elem? (t ∷ []) i ≡ some u → (i ≡ 0) × (t ≡ u)
only_loose t u zero e = (refl, some-injective t u e)
only_loose t u (suc i) e = absurd (some-ne-none u (sym e))

-- ---- the rule

right : (a b c : ℕ) → a + b + c ≡ a + (b + c)
right a b c = omega arith

in_locks : (m n l : ℕ) → l < n → m + l < m + n
in_locks m n l lt = omega arith

pub map_low : (x : Shape) → IsShape x → (m : ℕ) → 2 * m < x.sectors → x.map_at + m < x.total
map_low x h m i = omega (arith, h.map, h.log)

log_low : (x : Shape) → IsShape x → (l side : ℕ) → l < x.lanes → side < 2 → x.log_at + 8 * l + 2 * side + 1 < x.total
log_low x h l side i j = omega (arith, h.log)

pub data_low : (x : Shape) → IsShape x → (b j : ℕ) → b < x.sectors + x.lanes → j < x.width → x.data_at + b * x.inner + j < x.total
data_low x h b j lb lj = let d = data_in x h b j lb lj in omega (arith, d, h.map, h.log)

less : {a b : ℕ} → a + 1 < b → a < b
less lt = omega arith

module _ (k : Key) (b : IsBegun k) where
  abbrev x : Shape
  x = k.shape

  abbrev ws : List ℕ
  ws = words_of k

  abbrev s : State
  s = opened (areas_in x ws) (side_of k)

  -- the j-th lane of the first seat
  had : (i j : ℕ) (u : View) (o : Owned) → get_elem? (first k ∷ []) i ≡ some u → get_elem? (owned u) j ≡ some o → (i ≡ 0) × (j < x.lanes) × (o ≡ opened_owned k j)
  had i j u o e a =
      let q = only_first (first k) u i e in
      let r = opened_at k 0 x.lanes j o (subst (λ (u : View). get_elem? (owned u) j ≡ some o) (sym q.1) a) in (q.0, r.0, r.1 ∙ ap (opened_owned k) (omega arith))

  seats : Seats x (first k ∷ []) s.lanes
  seats =
      record {
        known = λ i j u o e a. let r = had i j u o e a in
            (subst (λ (n : ℕ). n < x.lanes) (sym (ap (λ (o : Owned). o.number) r.2)) r.1, ap (λ (o : Owned). s.lanes o.number) r.2 ∙ sym (ap (λ (o : Owned). o.lane) r.2), ap (λ (o : Owned). o.shape) r.2);
        once = λ i i' j m u t o p e f a c z. let r = had i j u o e a in let y = had i' m t p f c in
            (r.0 ∙ sym y.0, sym (ap (λ (o : Owned). o.number) r.2) ∙ z ∙ ap (λ (o : Owned). o.number) y.2);
      }

  -- every session's pass is yet to be made
  passes : Passes (first k ∷ []) s.lanes s.history
  unfolding of_lane of_session
  passes =
      record {
        homes = λ q. Loose 0 0;
        loose = λ i j u t e a. let q = only_first (first k) u i e in let r = only_loose (unmade_from 0) t j (subst (λ (u : View). get_elem? u.loose j ≡ some t) (sym q.1) a) in
            ((λ n c. (cc_loose i j q.0 r.0, ap (λ (t : PassPart). t.entries) r.1)), sym (ap (λ (t : PassPart). rising t.entries) r.1));
        held = λ i j u o e a m t is. let r = had i j u o e a in absurd (some-ne-none t (sym (ap (λ (o : Owned). get_elem? o.held m) (sym r.2) ∙ is)));
        unfinished = λ l j e is. absurd (no_past l j e is);
      }
    where
      cc_loose : (i j : ℕ) → i ≡ 0 → j ≡ 0 → Loose 0 0 ≡ Loose i j
      cc_loose i j p q = cc

      no_past : (l j : ℕ) (e : Entry) → get_elem? (unlogged (s.lanes l).log l s.history) j ≡ some e → ⊥
      no_past l j e is = some-ne-none e (sym is)

  shown : Shows x (row_of x ws) s
  shown (SeenData c j) i = seen_word x ws b.shape b.size (x.data_at + c * x.inner + j) (data_low x b.shape c j i.0 i.1)
  shown (KeptData c j) i = kept_word x ws b.shape b.size (x.data_at + c * x.inner + j) (data_low x b.shape c j i.0 i.1)
  shown (SeenMap m) i = seen_word x ws b.shape b.size (x.map_at + m) (map_low x b.shape m i)
  shown (KeptMap m) i = kept_word x ws b.shape b.size (x.map_at + m) (map_low x b.shape m i)
  shown (SeenA l side) i = seen_word x ws b.shape b.size (x.log_at + 8 * l + 2 * side) (less (log_low x b.shape l side i.0 i.1))
  shown (KeptA l side) i = kept_word x ws b.shape b.size (x.log_at + 8 * l + 2 * side) (less (log_low x b.shape l side i.0 i.1))
  shown (SeenB l side) i = seen_word x ws b.shape b.size (x.log_at + 8 * l + 2 * side + 1) (log_low x b.shape l side i.0 i.1)
  shown (KeptB l side) i = kept_word x ws b.shape b.size (x.log_at + 8 * l + 2 * side + 1) (log_low x b.shape l side i.0 i.1)
  shown (Reader l) i = zero_word x ws b.shape b.size (reader_place l) (omega (arith, reader_in l x.lanes i))
  shown (Lock l) i = ap (slice_index (row_of x ws)) (right (2 * x.total) (reader_words x.lanes) l) ∙ zero_word x ws b.shape b.size (reader_words x.lanes + l) (in_locks (reader_words x.lanes) x.lanes l i)

  pub begins : (S : Type 0) → holds {S = S} k (opening (row_of x ws) [] (first k))
  begins S = (s, record { sound = opened_sound (geometry x) (areas_in x ws) (side_of k) b.opens; shape = b.shape; size = row_length x ws b.shape b.size; shown = shown; fixed = λ i f. (seen_word x ws b.shape b.size i f.inside, kept_word x ws b.shape b.size i f.inside); seats = seats; passes = passes })
