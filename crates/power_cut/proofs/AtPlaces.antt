-- The words of arenas are put as the definition says, in whatever order.
use Rattle.std.proofs.Common.{◌≡◌, ◌≢◌, ◌⊎◌, ℕ, zero, suc, ◌+◌, ◌-◌, ◌*◌, ◌/◌, ◌<◌, ◌≤◌, true, false, List, [], ◌∷◌, ◌++◌, length, take, drop, map, get_or, Option, Some, None, refl, sym, ap, ◌∙◌, subst, arith, inl, inr}
use Rattle.std.specs.Prelude.{◌==◌, slice_get, unwrap_or}
use Rattle.std.specs.List.{All, range_with_len}
use Rattle.std.proofs.Math.Nat.{mul-suc}
use Rattle.std.proofs.lemmas.Bool.{cases_Bool, cases_lt, eqb-true}
use Rattle.std.proofs.lemmas.Bool.Decides.{nat_tests}
use Rattle.std.proofs.lemmas.List.{ext_get_or, get_or-set_same, get_or-set_other, get_or-take, get_or-drop, get_or_append_left, get_or-append_right, length-set, length-take-le, length-drop}
use Rattle.std.proofs.lemmas.List.Elements.{All-nil, All-cons, All-head, All-tail}
use Rattle.cut_words.specs.WordBytes.{put_at}
use Rattle.cut_words.specs.Words.{Words, IsLeft}
use Rattle.cut_words.proofs.Put.{length_put, put_outside}
use Rattle.power_cut.specs.declared.leaving.ArenaLeft.{ArenaLeft}
use Rattle.power_cut.specs.declared.leaving.Images.{Images}
use Rattle.power_cut.specs.declared.leaving.Place.{Place}
use Rattle.power_cut.specs.Namespace.{HasBytes, row_of}
use Rattle.power_cut.specs.Left.{AreAtPlaces, AreRunsApart, BelongsTo, Each, IsInRun, IsPlaced, arena_word, has_word, or_word, row_with, with_arenas, word_in}
use Rattle.power_cut.specs.Placing.{HasRoom, IsRoom, put_arenas, put_run, put_runs}
use Rattle.power_cut.proofs.Spread.{at_range, differ, length_range}

-- ---- rows and their words

abbrev row_at : List (List ℕ) → ℕ → List ℕ
row_at rows which = get_or rows which []

abbrev cell : List (List ℕ) → ℕ → ℕ → ℕ
cell rows which k = get_or (get_or rows which []) k 0

cases_same : (a b : ℕ) → (a ≡ b) ⊎ (a ≢ b)
cases_same a b = elim (cases_Bool (a == b)) [ inl same ↦ inl (eqb-true a b same) | inr apart ↦ inr (differ a b apart) ]

pub all_to : {A : Type 0} (P Q : A → Type 0) (xs : List A) → ((x : A) → P x → Q x) → All P xs → All Q xs
all_to P Q [] h all = All-nil Q
all_to P Q (x ∷ xs) h all = All-cons Q x xs (h x (All-head P x xs all)) (all_to P Q xs h (All-tail P x xs all))

-- as many rows, each as long
pub record AreAlike (rows others : List (List ℕ)) : Type 0 where
  pub count : length others ≡ length rows
  pub long : (which : ℕ) → length (row_at others which) ≡ length (row_at rows which)

alike_twice : (a b c : List (List ℕ)) → AreAlike a b → AreAlike b c → AreAlike a c
alike_twice a b c one two = record { count = two.count ∙ one.count; long = λ which. two.long which ∙ one.long which }

room_alike : (rows others : List (List ℕ)) (run : ℕ) (place : Place) → AreAlike rows others → IsRoom rows run place → IsRoom others run place
room_alike rows others run place alike room =
    record { there = omega (arith, room.there, alike.count); reaches = omega (arith, room.reaches, alike.long place.«module») }

rooms_alike : (rows others : List (List ℕ)) (run : ℕ) (places : List Place) → AreAlike rows others → All (IsRoom rows run) places → All (IsRoom others run) places
rooms_alike rows others run places alike rooms = all_to (IsRoom rows run) (IsRoom others run) places (λ place room. room_alike rows others run place alike room) rooms

pub has_alike : (rows others : List (List ℕ)) (arena : ArenaLeft) → AreAlike rows others → HasRoom rows arena → HasRoom others arena
has_alike rows others arena alike has = record { counts = has.counts; rooms = rooms_alike rows others arena.run arena.places alike has.rooms }

-- ---- one run

in_run : (run : ℕ) (place : Place) (which k : ℕ) → has_word run place which k ≡ true → IsInRun run place which k
in_run run place which k is = record { here = grind (arith, nat_tests); from = grind (arith, nat_tests); to = grind (arith, nat_tests) }

run_in : (run : ℕ) (place : Place) (which k : ℕ) → IsInRun run place which k → has_word run place which k ≡ true
run_in run place which k is =
    let here = is.here in
    let from = is.from in
    let to = is.to in
    grind (arith, nat_tests)

out_of_run : (run : ℕ) (place : Place) (k : ℕ) → has_word run place place.«module» k ≡ false → (k < place.address / 8) ⊎ (place.address / 8 + run ≤ k)
out_of_run run place k is = elim (cases_lt k (place.address / 8)) [
  | inl below ↦ inl below
  | inr from ↦ elim (cases_lt k (place.address / 8 + run)) [
    | inl to ↦
        let inside = run_in run place place.«module» k (record { here = refl; from = from; to = to }) in
        absurd (let e = sym inside ∙ is in cc)
    | inr past ↦ inr past
  ]
]

put_inside : (words : List ℕ) (at : ℕ) (others : List ℕ) (i : ℕ) → at + length others ≤ length words → i < length others → get_or (put_at words at others) (at + i) 0 ≡ get_or others i 0
put_inside words at others i fits lt =
    get_or-append_right (take at words) (others ++ drop (at + length others) words) at (at + i) 0 (length-take-le at words (omega arith)) (omega arith)
    ∙ ap (λ (k : ℕ). get_or (others ++ drop (at + length others) words) k 0) (omega arith)
    ∙ get_or_append_left others (drop (at + length others) words) 0 i lt

module _ (rows : List (List ℕ)) (place : Place) (words : List ℕ) (room : IsRoom rows (length words) place) where
  here : List ℕ
  here = put_at (row_at rows place.«module») (place.address / 8) words

  row_put : row_at (put_run rows place words) place.«module» ≡ put_at (row_at rows place.«module») (place.address / 8) words
  row_put = get_or-set_same rows place.«module» (put_at (row_at rows place.«module») (place.address / 8) words) [] room.there

  row_other : (which : ℕ) → which ≢ place.«module» → row_at (put_run rows place words) which ≡ row_at rows which
  row_other which apart = get_or-set_other rows place.«module» which (put_at (row_at rows place.«module») (place.address / 8) words) [] apart

  long_put : (which : ℕ) → length (row_at (put_run rows place words) which) ≡ length (row_at rows which)
  long_put which = elim (cases_same which place.«module») [
    | inl e ↦
        ap (λ w. length (row_at (put_run rows place words) w)) e ∙ ap (λ (r : List ℕ). length r) row_put
        ∙ length_put (row_at rows place.«module») (place.address / 8) words room.reaches ∙ sym (ap (λ w. length (row_at rows w)) e)
    | inr apart ↦ ap (λ (r : List ℕ). length r) (row_other which apart)
  ]

  put_alike : AreAlike rows (put_run rows place words)
  put_alike = record { count = length-set rows place.«module» (put_at (row_at rows place.«module») (place.address / 8) words); long = long_put }

  put_there : (which k : ℕ) → IsInRun (length words) place which k → cell (put_run rows place words) which k ≡ get_or words (k - place.address / 8) 0
  put_there which k is =
      let from = is.from in
      let to = is.to in
      let back : place.address / 8 + (k - place.address / 8) ≡ k = omega arith in
      ap (λ w. cell (put_run rows place words) w k) (sym is.here) ∙ ap (λ (r : List ℕ). get_or r k 0) row_put
      ∙ ap (λ j. get_or (put_at (row_at rows place.«module») (place.address / 8) words) j 0) (sym back)
      ∙ put_inside (row_at rows place.«module») (place.address / 8) words (k - place.address / 8) room.reaches (omega arith)

  put_other : (which k : ℕ) → has_word (length words) place which k ≡ false → cell (put_run rows place words) which k ≡ cell rows which k
  put_other which k is = elim (cases_same which place.«module») [
    | inl e ↦
        let out = out_of_run (length words) place k (subst (λ w. has_word (length words) place w k ≡ false) e is) in
        ap (λ w. cell (put_run rows place words) w k) e ∙ ap (λ (r : List ℕ). get_or r k 0) row_put
        ∙ put_outside (row_at rows place.«module») (place.address / 8) words k room.reaches out ∙ sym (ap (λ w. cell rows w k) e)
    | inr apart ↦ ap (λ (r : List ℕ). get_or r k 0) (row_other which apart)
  ]

-- ---- the runs of one arena

none_of : {A : Type 0} (o : Option A) → ((x : A) → o ≡ Some x → ⊥) → o ≡ None
none_of None never = refl
none_of (Some x) never = absurd (never x refl)

-- no word is in the runs of two of these places
abbrev AreApartIn : ℕ → List Place → Type 0
AreApartIn run places = (i j : ℕ) (p q : Place) (which k : ℕ) → slice_get places i ≡ Some p → slice_get places j ≡ Some q → IsInRun run p which k → IsInRun run q which k → i ≡ j

apart_tail : (run : ℕ) (place : Place) (places : List Place) → AreApartIn run (place ∷ places) → AreApartIn run places
apart_tail run place places apart i j p q which k at_i at_j in_p in_q =
    let same : suc i ≡ suc j = apart (suc i) (suc j) p q which k at_i at_j in_p in_q in
    omega (arith, same)

-- the place whose run has a word
record InRuns (run : ℕ) (words : List ℕ) (places : List Place) (which k x : ℕ) : Type 0 where
  pub j : ℕ
  pub place : Place
  pub is : slice_get places j ≡ Some place
  pub inside : IsInRun run place which k
  pub value : x ≡ get_or words (run * j + (k - place.address / 8)) 0

found_in : (run : ℕ) (places : List Place) (words : List ℕ) (which k x : ℕ) → word_in run words places which k ≡ Some x → InRuns run words places which k x
found_in run [] words which k x is = absurd cc
found_in run (p ∷ ps) words which k x is = elim (cases_Bool (has_word run p which k)) [
  | inl h ↦
      let same : Some (get_or words (k - p.address / 8) 0) ≡ Some x = rw h at is in
      let value : get_or words (k - p.address / 8) 0 ≡ x = cc in
      record { j = 0; place = p; is = refl; inside = in_run run p which k h; value = sym value ∙ ap (λ i. get_or words i 0) (omega arith) }
  | inr h ↦
      let rest = found_in run ps (drop run words) which k x (rw h at is) in
      record {
        j = suc rest.j;
        place = rest.place;
        is = rest.is;
        inside = rest.inside;
        value = rest.value ∙ get_or-drop run words (run * rest.j + (k - rest.place.address / 8)) 0
            ∙ ap (λ i. get_or words i 0) (omega (arith, mul-suc run rest.j));
      }
]

there_in : (run : ℕ) (places : List Place) (words : List ℕ) (which k j : ℕ) (place : Place) → slice_get places j ≡ Some place → IsInRun run place which k
    → (x : ℕ) × (word_in run words places which k ≡ Some x)
there_in run [] words which k j place is inside = absurd cc
there_in run (p ∷ ps) words which k zero place is inside =
    let same : p ≡ place = cc in
    let h : has_word run p which k ≡ true = subst (λ q. has_word run q which k ≡ true) (sym same) (run_in run place which k inside) in
    (get_or words (k - p.address / 8) 0, rw h refl)
there_in run (p ∷ ps) words which k (suc j) place is inside = elim (cases_Bool (has_word run p which k)) [
  | inl h ↦ (get_or words (k - p.address / 8) 0, rw h refl)
  | inr h ↦
      let rest = there_in run ps (drop run words) which k j place is inside in
      (rest.0, rw h rest.1)
]

-- the room that one run needs
pub record RunFits (run : ℕ) (words : List ℕ) (place : Place) (places : List Place) (rows : List (List ℕ)) : Type 0 where
  pub first : length (take run words) ≡ run
  pub others : length (drop run words) ≡ run * length places
  pub room : IsRoom rows (length (take run words)) place
  pub rest : All (IsRoom (put_run rows place (take run words)) run) places
  pub alike : AreAlike rows (put_run rows place (take run words))

pub run_fits : (run : ℕ) (place : Place) (places : List Place) (words : List ℕ) (rows : List (List ℕ)) → length words ≡ run * length (place ∷ places) → All (IsRoom rows run) (place ∷ places)
    → RunFits run words place places rows
run_fits run place places words rows counts rooms =
    let more : run * suc (length places) ≡ run * length places + run = mul-suc run (length places) in
    let total : length words ≡ run * suc (length places) = counts in
    let first : length (take run words) ≡ run = length-take-le run words (omega (arith, more, total)) in
    let room : IsRoom rows (length (take run words)) place = subst (λ n. IsRoom rows n place) (sym first) (All-head (IsRoom rows run) place places rooms) in
    let alike : AreAlike rows (put_run rows place (take run words)) = put_alike rows place (take run words) room in
    record {
      first = first;
      others = omega (arith, more, total, length-drop run words);
      room = room;
      rest = rooms_alike rows (put_run rows place (take run words)) run places alike (All-tail (IsRoom rows run) place places rooms);
      alike = alike;
    }

pub runs_alike : (run : ℕ) (places : List Place) (words : List ℕ) (rows : List (List ℕ)) → length words ≡ run * length places → All (IsRoom rows run) places
    → AreAlike rows (put_runs run words places rows)
runs_alike run [] words rows counts rooms = record { count = refl; long = λ which. refl }
runs_alike run (p ∷ ps) words rows counts rooms =
    let fits = run_fits run p ps words rows counts rooms in
    alike_twice rows (put_run rows p (take run words)) (put_runs run (drop run words) ps (put_run rows p (take run words))) fits.alike
    (runs_alike run ps (drop run words) (put_run rows p (take run words)) fits.others fits.rest)

runs_cell : (run : ℕ) (places : List Place) (words : List ℕ) (rows : List (List ℕ)) (which k : ℕ) → length words ≡ run * length places → All (IsRoom rows run) places → AreApartIn run places
    → cell (put_runs run words places rows) which k ≡ unwrap_or (word_in run words places which k) (cell rows which k)
runs_cell run [] words rows which k counts rooms apart = refl
runs_cell run (p ∷ ps) words rows which k counts rooms apart =
    let fits = run_fits run p ps words rows counts rooms in
    let next : List (List ℕ) = put_run rows p (take run words) in
    let rest : cell (put_runs run (drop run words) ps (put_run rows p (take run words))) which k ≡ unwrap_or (word_in run (drop run words) ps which k) (cell (put_run rows p (take run words)) which k) =
    runs_cell run ps (drop run words) (put_run rows p (take run words)) which k fits.others fits.rest (apart_tail run p ps apart) in
    elim (cases_Bool (has_word run p which k)) [
      | inl h ↦
          let inside : IsInRun run p which k = in_run run p which k h in
          let alone : word_in run (drop run words) ps which k ≡ None =
          none_of (word_in run (drop run words) ps which k) (λ x is.
          let found = found_in run ps (drop run words) which k x is in
          let same : zero ≡ suc found.j = apart zero (suc found.j) p found.place which k refl found.is inside found.inside in
          absurd (omega (arith, same))) in
          let put : cell (put_run rows p (take run words)) which k ≡ get_or (take run words) (k - p.address / 8) 0 =
          put_there rows p (take run words) fits.room which k (subst (λ n. IsInRun n p which k) (sym fits.first) inside) in
          let from = inside.from in
          let to = inside.to in
          rw h (rest ∙ ap (λ o. unwrap_or o (cell (put_run rows p (take run words)) which k)) alone ∙ put ∙ get_or-take run words (k - p.address / 8) 0 (omega arith))
      | inr h ↦
          let put : cell (put_run rows p (take run words)) which k ≡ cell rows which k =
          put_other rows p (take run words) fits.room which k (subst (λ n. has_word n p which k ≡ false) (sym fits.first) h) in
          rw h (rest ∙ ap (λ old. unwrap_or (word_in run (drop run words) ps which k) old) put)
    ]

-- ---- all arenas

arenas_tail : (arena : ArenaLeft) (arenas : List ArenaLeft) → AreRunsApart (arena ∷ arenas) → AreRunsApart arenas
arenas_tail arena arenas apart m n a b i j which k at_m at_n in_a in_b =
    let same = apart (suc m) (suc n) a b i j which k at_m at_n in_a in_b in
    (omega (arith, same.0), same.1)

places_apart : (arena : ArenaLeft) (arenas : List ArenaLeft) → AreRunsApart (arena ∷ arenas) → AreApartIn arena.run arena.places
places_apart arena arenas apart i j p q which k at_i at_j in_p in_q =
    (apart zero zero arena arena i j which k refl refl (record { place = p; is = at_i; inside = in_p }) (record { place = q; is = at_j; inside = in_q })).1

-- the arena that has a word
record InArenas (arenas : List ArenaLeft) (which k x : ℕ) : Type 0 where
  pub n : ℕ
  pub arena : ArenaLeft
  pub is : slice_get arenas n ≡ Some arena
  pub j : ℕ
  pub belongs : BelongsTo arena j which k
  pub value : x ≡ get_or arena.words (arena.run * j + (k - belongs.place.address / 8)) 0

found_first : (arena : ArenaLeft) (arenas : List ArenaLeft) (which k x : ℕ) → word_in arena.run arena.words arena.places which k ≡ Some x → InArenas (arena ∷ arenas) which k x
found_first arena arenas which k x is =
    let found = found_in arena.run arena.places arena.words which k x is in
    record { n = 0; arena = arena; is = refl; j = found.j; belongs = record { place = found.place; is = found.is; inside = found.inside }; value = found.value }

found_arena : (arenas : List ArenaLeft) (which k x : ℕ) → arena_word arenas which k ≡ Some x → InArenas arenas which k x
found_arena [] which k x is = absurd cc
found_arena (a ∷ others) which k x is = by (word_in a.run a.words a.places which k) refl is (found_arena others which k x)
  where
    by : (o : Option ℕ) → word_in a.run a.words a.places which k ≡ o → or_word o (arena_word others which k) ≡ Some x → (arena_word others which k ≡ Some x → InArenas others which k x)
        → InArenas (a ∷ others) which k x
    by (Some y) eq same later = found_first a others which k x (eq ∙ same)
    by None eq same later =
        let rest = later same in
        record { n = suc rest.n; arena = rest.arena; is = rest.is; j = rest.j; belongs = rest.belongs; value = rest.value }

there_arena : (arenas : List ArenaLeft) (which k n : ℕ) (arena : ArenaLeft) (j : ℕ) → slice_get arenas n ≡ Some arena → BelongsTo arena j which k → (x : ℕ) × (arena_word arenas which k ≡ Some x)
there_arena [] which k n arena j is belongs = absurd cc
there_arena (a ∷ others) which k zero arena j is belongs =
    let same : a ≡ arena = cc in
    let there : BelongsTo a j which k = subst (λ b. BelongsTo b j which k) (sym same) belongs in
    let found = there_in a.run a.places a.words which k j there.place there.is there.inside in
    (found.0, ap (λ o. or_word o (arena_word others which k)) found.1)
there_arena (a ∷ others) which k (suc n) arena j is belongs = by (word_in a.run a.words a.places which k) (there_arena others which k n arena j is belongs)
  where
    by : (o : Option ℕ) → (x : ℕ) × (arena_word others which k ≡ Some x) → (x : ℕ) × (or_word o (arena_word others which k) ≡ Some x)
    by (Some y) later = (y, refl)
    by None later = later

-- the room for the remaining arenas
rooms_after : (arena : ArenaLeft) (arenas : List ArenaLeft) (rows : List (List ℕ)) → All (HasRoom rows) (arena ∷ arenas) → All (HasRoom (put_runs arena.run arena.words arena.places rows)) arenas
rooms_after a others rows has =
    let first = All-head (HasRoom rows) a others has in
    let alike : AreAlike rows (put_runs a.run a.words a.places rows) = runs_alike a.run a.places a.words rows first.counts first.rooms in
    all_to (HasRoom rows) (HasRoom (put_runs a.run a.words a.places rows)) others (λ b. has_alike rows (put_runs a.run a.words a.places rows) b alike) (All-tail (HasRoom rows) a others has)

arenas_alike : (arenas : List ArenaLeft) (rows : List (List ℕ)) → All (HasRoom rows) arenas → AreAlike rows (put_arenas arenas rows)
arenas_alike [] rows has = record { count = refl; long = λ which. refl }
arenas_alike (a ∷ others) rows has =
    let first = All-head (HasRoom rows) a others has in
    alike_twice rows (put_runs a.run a.words a.places rows) (put_arenas others (put_runs a.run a.words a.places rows))
    (runs_alike a.run a.places a.words rows first.counts first.rooms) (arenas_alike others (put_runs a.run a.words a.places rows) (rooms_after a others rows has))

arenas_cell : (arenas : List ArenaLeft) (rows : List (List ℕ)) (which k : ℕ) → All (HasRoom rows) arenas → AreRunsApart arenas
    → cell (put_arenas arenas rows) which k ≡ unwrap_or (arena_word arenas which k) (cell rows which k)
arenas_cell [] rows which k has apart = refl
arenas_cell (a ∷ others) rows which k has apart =
    by (word_in a.run a.words a.places which k) refl
    (arenas_cell others (put_runs a.run a.words a.places rows) which k (rooms_after a others rows has) (arenas_tail a others apart))
  where
    here : cell (put_runs a.run a.words a.places rows) which k ≡ unwrap_or (word_in a.run a.words a.places which k) (cell rows which k)
    here =
        let first = All-head (HasRoom rows) a others has in
        runs_cell a.run a.places a.words rows which k first.counts first.rooms (places_apart a others apart)

    by : (o : Option ℕ) → word_in a.run a.words a.places which k ≡ o
        → cell (put_arenas others (put_runs a.run a.words a.places rows)) which k ≡ unwrap_or (arena_word others which k) (cell (put_runs a.run a.words a.places rows) which k)
        → cell (put_arenas others (put_runs a.run a.words a.places rows)) which k ≡ unwrap_or (or_word (word_in a.run a.words a.places which k) (arena_word others which k)) (cell rows which k)
    by (Some x) eq rest =
        let mine = found_in a.run a.places a.words which k x eq in
        let alone : arena_word others which k ≡ None =
        none_of (arena_word others which k) (λ y is.
        let found = found_arena others which k y is in
        let same = apart zero (suc found.n) a found.arena mine.j found.j which k refl found.is (record { place = mine.place; is = mine.is; inside = mine.inside }) found.belongs in
        let none : zero ≡ suc found.n = same.0 in
        absurd (omega (arith, none))) in
        rest ∙ ap (λ o. unwrap_or o (cell (put_runs a.run a.words a.places rows) which k)) alone ∙ here
        ∙ ap (λ o. unwrap_or o (cell rows which k)) eq ∙ sym (ap (λ o. unwrap_or (or_word o (arena_word others which k)) (cell rows which k)) eq)
    by None eq rest =
        rest ∙ ap (λ old. unwrap_or (arena_word others which k) old) (here ∙ ap (λ o. unwrap_or o (cell rows which k)) eq)
        ∙ sym (ap (λ o. unwrap_or (or_word o (arena_word others which k)) (cell rows which k)) eq)

-- ---- the clauses of leave_all

same_word : (a b : ArenaLeft) (i j which k : ℕ) (p : BelongsTo a i which k) (q : BelongsTo b j which k) → a ≡ b → i ≡ j
    → get_or a.words (a.run * i + (k - p.place.address / 8)) 0 ≡ get_or b.words (b.run * j + (k - q.place.address / 8)) 0
same_word a b i j which k p q an_arena a_place =
    let one : p.place ≡ q.place = (let e = sym p.is ∙ ap (λ (x : ArenaLeft). slice_get x.places i) an_arena ∙ ap (slice_get b.places) a_place ∙ q.is in cc) in
    ap (λ (x : Place). get_or a.words (a.run * i + (k - x.address / 8)) 0) one ∙ ap (λ x. get_or a.words (a.run * x + (k - q.place.address / 8)) 0) a_place
    ∙ ap (λ (x : ArenaLeft). get_or x.words (x.run * j + (k - q.place.address / 8)) 0) an_arena

module _ (arenas : List ArenaLeft) (left : Images) (has : All (HasRoom left.contents) arenas) (apart : AreRunsApart arenas) where
  row_is : (which : ℕ) → row_with arenas which (row_at left.contents which) ≡ row_at (put_arenas arenas left.contents) which
  row_is which =
      let row : List ℕ = row_at left.contents which in
      let long : length (row_at (put_arenas arenas left.contents) which) ≡ length (row_at left.contents which) = (arenas_alike arenas left.contents has).long which in
      ext_get_or 0 (row_with arenas which (row_at left.contents which)) (row_at (put_arenas arenas left.contents) which)
      (length_range (λ k. unwrap_or (arena_word arenas which k) (cell left.contents which k)) (length (row_at left.contents which)) ∙ sym long)
      (λ k lt.
      let inside : k < length (row_at left.contents which) = omega (arith, lt, length_range (λ k. unwrap_or (arena_word arenas which k) (cell left.contents which k)) (length (row_at left.contents which))) in
      at_range (λ k. unwrap_or (arena_word arenas which k) (cell left.contents which k)) (length (row_at left.contents which)) k 0 inside
      ∙ sym (arenas_cell arenas left.contents which k has apart))

  contents_are : map (λ which. row_with arenas which (row_at left.contents which)) (range_with_len 0 (length left.contents)) ≡ put_arenas arenas left.contents
  contents_are =
      let count : length (put_arenas arenas left.contents) ≡ length left.contents = (arenas_alike arenas left.contents has).count in
      ext_get_or [] (map (λ which. row_with arenas which (row_at left.contents which)) (range_with_len 0 (length left.contents))) (put_arenas arenas left.contents)
      (length_range (λ which. row_with arenas which (row_at left.contents which)) (length left.contents) ∙ sym count)
      (λ which lt.
      let inside : which < length left.contents = omega (arith, lt, length_range (λ which. row_with arenas which (row_at left.contents which)) (length left.contents)) in
      at_range (λ which. row_with arenas which (row_at left.contents which)) (length left.contents) which [] inside ∙ row_is which)

  pub with_is : with_arenas arenas left ≡ record { labels = left.labels; contents = put_arenas arenas left.contents }
  unfolding with_arenas
  with_is = ap (λ contents. record { labels = left.labels; contents = contents }) contents_are

  pub at_places : AreAtPlaces arenas (put_arenas arenas left.contents)
  at_places n arena j which k is belongs =
      let there = there_arena arenas which k n arena j is belongs in
      let found = found_arena arenas which k there.0 there.1 in
      let same = apart found.n n found.arena arena found.j j which k found.is is found.belongs belongs in
      let an_arena : found.arena ≡ arena = (let e = sym found.is ∙ ap (slice_get arenas) same.0 ∙ is in cc) in
      arenas_cell arenas left.contents which k has apart ∙ ap (λ o. unwrap_or o (cell left.contents which k)) there.1
      ∙ found.value ∙ same_word found.arena arena found.j j which k found.belongs belongs an_arena same.1

-- ---- the rows have the required room

each_left : (rows : List Words) (left : List (List ℕ)) → Each IsLeft rows left → (length left ≡ length rows) × ((which : ℕ) → length (row_at left which) ≡ length (row_of rows which).kept)
each_left [] left each = (ap (λ (l : List (List ℕ)). length l) each, λ which. ap (λ (l : List (List ℕ)). length (row_at l which)) each)
each_left (r ∷ rs) left each =
    let rest = each_left rs each.1 each.4 in (
      ap (λ (l : List (List ℕ)). length l) each.2 ∙ ap suc rest.0,
      λ which. ap (λ (l : List (List ℕ)). length (row_at l which)) each.2 ∙ by rest.1 which,
    )
  where
    by : ((which : ℕ) → length (row_at each.1 which) ≡ length (row_of rs which).kept) → (which : ℕ) → length (row_at (each.0 ∷ each.1) which) ≡ length (row_of (r ∷ rs) which).kept
    by later zero = each.3.same_length
    by later (suc which) = later which

pub rooms_left : (rows : List Words) (left : List (List ℕ)) (arenas : List ArenaLeft) → Each IsLeft rows left → All (IsPlaced rows) arenas → All (HasRoom left) arenas
rooms_left rows left arenas each placed =
    let alike = each_left rows left each in
    all_to (IsPlaced rows) (HasRoom left) arenas
    (λ arena is. record {
      counts = is.counts;
      rooms = all_to (λ (place : Place). HasBytes rows place.«module» place.address (8 * arena.run)) (IsRoom left arena.run) arena.places
          (λ place bytes. record { there = omega (arith, bytes.there, alike.0); reaches = omega (arith, bytes.reaches, alike.1 place.«module») }) is.inside;
    }) placed
