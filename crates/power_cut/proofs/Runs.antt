-- Words of a namespace that are contiguous in a module.
use Rattle.std.proofs.Common.{◌≡◌, ℕ, ◌+◌, ◌-◌, ◌*◌, ◌/◌, ◌^◌, ◌<◌, ◌≤◌, min, List, ◌++◌, length, length-append, take, drop, get_or, None, sym, ap, ◌∙◌, subst, arith}
use Rattle.std.proofs.Math.Seq.{take-add}
use Rattle.std.proofs.lemmas.List.{drop-drop, ext_get_or, get_or-take, get_or-drop, length-drop, length-take-le}
use Rattle.std.proofs.lemmas.Slice.{take-put_mid}
use borrow.Rule.Slice.PartMut.{put_mid}
use Rattle.interleave.specs.Places.{LiesAt}
use Rattle.interleave.specs.Sound.{IsRun}
use Rattle.cut_words.specs.Words.{AreFlushed, Words}
use Rattle.power_cut.specs.Namespace.{Namespace, HasRows, IsLaid, IsWordRun, byte_at, count_of, row_of, words_of}
use Rattle.power_cut.proofs.Places.{byte_is}
use Rattle.power_cut.proofs.Spread.{count_is, eighth, kept_is, row_read, stored_is}

-- in terms of the set's bytes
pub words_run : (n : Namespace) (i which k bytes : ℕ) → IsRun n.set (byte_at n i) which (8 * k) bytes → IsWordRun n i which k (bytes / 8)
words_run n i which k bytes run j lt =
    let there : LiesAt n.set (byte_at n i + 8 * j) which (8 * k + 8 * j) = run.each (8 * j) (omega (arith, lt)) in
    let byte : byte_at n i + 8 * j ≡ byte_at n (i + j) = omega arith in
    let address : 8 * k + 8 * j ≡ 8 * (k + j) = omega arith in
    subst (λ (y : ℕ). LiesAt n.set y which (8 * (k + j))) byte (subst (λ (a : ℕ). LiesAt n.set (byte_at n i + 8 * j) which a) address there)

-- fewer of them
pub fewer : (n : Namespace) (i which k count less : ℕ) → IsWordRun n i which k count → less ≤ count → IsWordRun n i which k less
fewer n i which k count less run le j lt = run j (omega (arith, lt, le))

module _ (n : Namespace) (i which k count : ℕ) (laid : IsLaid n) (rows : HasRows n.set n.modules) (some : 0 < count) (inside : i + count ≤ count_of n) (run : IsWordRun n i which k count) where
  -- the module has them
  pub room : k + count ≤ length (row_of n.modules which).kept
  room =
      let last : LiesAt n.set (byte_at n (i + (count - 1))) which (8 * (k + (count - 1))) = run (count - 1) (omega (arith, some)) in
      let reach = rows.reach last.0 last.1 in
      let reaches = subst (λ (w : ℕ). last.0.start + last.0.size ≤ 8 * length (row_of n.modules w).kept) last.2.of reach.reaches in
      omega (arith, some, reaches, last.2.inside)

  -- their kept values
  pub kept_run : take count (drop k (row_of n.modules which).kept) ≡ take count (drop i (words_of n).kept)
  kept_run =
      let own = (row_of n.modules which).kept in
      let all = (words_of n).kept in
      let long : length (take count (drop k own)) ≡ count = length-take-le count (drop k own) (omega (arith, length-drop k own, room)) in
      let long' : length (take count (drop i all)) ≡ count = length-take-le count (drop i all) (omega (arith, length-drop i all, inside, count_is n)) in
      ext_get_or 0 (take count (drop k own)) (take count (drop i all)) (long ∙ sym long') (λ j lt.
      let less : j < count = omega (arith, lt, long) in
      get_or-take count (drop k own) j 0 less ∙ get_or-drop k own j 0
      ∙ sym (get_or-take count (drop i all) j 0 less ∙ get_or-drop i all j 0
      ∙ kept_is n (i + j) which (8 * (k + j)) laid (omega (arith, less, inside)) (run j less) ∙ ap (λ (w : ℕ). get_or own w 0) (eighth (k + j))))

  -- whether they are pending
  pub flushed_run : AreFlushed (words_of n) i count → AreFlushed (row_of n.modules which) k count
  flushed_run flushed j less =
      sym (stored_is n (i + j) which (8 * (k + j)) laid (omega (arith, less, inside)) (run j less) ∙ ap (λ (w : ℕ). get_or (row_of n.modules which).stored w None) (eighth (k + j)))
      ∙ flushed j less

-- ---- in terms of the methods

-- a word's number is below 2^61
pub small : (n : Namespace) (i : ℕ) → IsLaid n → i < count_of n → 8 * i < 2 ^ 64
small n i laid lt = omega (arith, (byte_is n i laid lt).in_region, laid.fits)

-- one turn of a loop that goes through `long` words of the namespace from word `first` on, of which `done` are done: the next `size` ones are the words of a
-- module's row from word k on
pub record Turn (n : Namespace) (first done size long k : ℕ) (row : Words) : Type 0 where
  pub some : 0 < size
  pub fits : done + size ≤ long
  pub room : k + size ≤ length row.kept
  pub flushed : AreFlushed (words_of n) first long → AreFlushed row k size
  pub kept : take size (drop k row.kept) ≡ take size (drop done (drop first (words_of n).kept))

turn_at : (n : Namespace) (first done size long which k : ℕ) → IsLaid n → HasRows n.set n.modules → first + long ≤ length (words_of n).kept → done + size ≤ long → 0 < size
    → IsWordRun n (first + done) which k size → Turn n first done size long k (row_of n.modules which)
turn_at n first done size long which k laid rows inside fits some run =
    let i : ℕ = first + done in
    let within : i + size ≤ count_of n = omega (arith, fits, inside, count_is n) in
    record {
      some = some;
      fits = fits;
      room = room n i which k size laid rows some within run;
      flushed = λ flushed. flushed_run n i which k size laid rows some within run (λ j lt.
          let sum : i + j ≡ first + (done + j) = omega arith in
          ap (λ (w : ℕ). get_or (words_of n).stored w None) sum ∙ flushed (done + j) (omega (arith, lt, fits)));
      kept = kept_run n i which k size laid rows some within run ∙ ap (take size) (ap (λ (w : ℕ). drop w (words_of n).kept) (omega arith) ∙ sym (drop-drop done first (words_of n).kept));
    }

pub turn : (seen n : Namespace) (first done size long most which k : ℕ) (row : Words) → seen ≡ n → IsLaid seen → HasRows seen.set seen.modules → first + long ≤ length (words_of n).kept → done < long
    → size ≡ min most (long - done) → 0 < most → ((w j : ℕ) → LiesAt seen.set (byte_at seen (first + done)) w (8 * j) → IsWordRun seen (first + done) w j most)
    → LiesAt n.set (byte_at n (first + done)) which (8 * k) → which < length n.modules → row ≡ get_or seen.modules which row → Turn n first done size long k row
turn seen n first done size long most which k row view laid rows inside less size_is some run there in_modules read =
    let here : LiesAt seen.set (byte_at seen (first + done)) which (8 * k) = subst (λ (m : Namespace). LiesAt m.set (byte_at m (first + done)) which (8 * k)) (sym view) there in
    let own : IsWordRun n (first + done) which k size =
    subst (λ (m : Namespace). IsWordRun m (first + done) which k size) view (fewer seen (first + done) which k most size (run which k here) (omega (arith, size_is))) in
    let row_is : row ≡ row_of n.modules which = row_read n.modules which row in_modules (read ∙ ap (λ (m : Namespace). get_or m.modules which row) view) in
    subst (Turn n first done size long k) (sym row_is)
    (turn_at n first done size long which k (subst (λ (m : Namespace). IsLaid m) view laid) (subst (λ (m : Namespace). HasRows m.set m.modules) view rows) inside
    (omega (arith, size_is, less)) (omega (arith, size_is, less, some)) own)

-- ---- a part of a list is overwritten

pub part_long : (done size : ℕ) (xs : List ℕ) → done + size ≤ length xs → length (take (done + size - done) (drop done xs)) ≡ size
part_long done size xs le = length-take-le (done + size - done) (drop done xs) (omega (arith, length-drop done xs, le)) ∙ omega arith

pub mid_long : (done k size : ℕ) (xs ys : List ℕ) → k ≡ size → done + size ≤ length xs → length ys ≡ size → length (put_mid done k xs ys) ≡ length xs
mid_long done k size xs ys same le long =
    length-append (take done xs) (ys ++ drop k (drop done xs))
    ∙ ap (λ (m : ℕ). length (take done xs) + m) (length-append ys (drop k (drop done xs)))
    ∙ omega (arith, length-take-le done xs (omega (arith, le)), long, length-drop k (drop done xs), length-drop done xs, same, le)

-- it has the first words of another list if the part has the next ones
pub mid_front : (done k size : ℕ) (xs ys all : List ℕ) → done ≤ length xs → length ys ≡ size → take done xs ≡ take done all → ys ≡ take size (drop done all)
    → take (done + size) (put_mid done k xs ys) ≡ take (done + size) all
mid_front done k size xs ys all le long front part =
    take-put_mid done k xs ys (done + size) (omega (arith, long)) le ∙ ap (λ (zs : List ℕ). zs ++ ys) front ∙ ap (λ (zs : List ℕ). take done all ++ zs) part ∙ sym (take-add done size all)
