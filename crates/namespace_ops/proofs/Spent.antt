-- A fuse is spent by the steps of a journal.
use Rattle.std.proofs.Common.{◌≡◌, ◌⊎◌, ℕ, ◌+◌, ◌-◌, ◌≤◌, ◌<◌, true, false, List, [], ◌∷◌, ◌++◌, Option, Some, None, Ok, Err, refl, sym, ap, ◌∙◌, inl, inr, arith}
use Rattle.std.specs.Prelude.{is_ok}
use Rattle.std.proofs.lemmas.Bool.{cases_Bool, false≢true, leb-false, leb-true, le-leb, lt-leb}
use Rattle.cut_words.specs.Fuses.{burnt, lasts}
use Rattle.nfit_reader.specs.declared.table.Mapping.{Mapping}
use Rattle.namespace_map.specs.Areas.{steps_of_all}
use Rattle.namespace_map.specs.Changes.{changes_of}
use Rattle.namespace_map.specs.Commands.{refusal_of}
use Rattle.namespace_map.specs.declared.refused.OpRefused.{OpRefused}
use Rattle.namespace_areas.specs.Seen.{areas_seen}
use Rattle.namespace_ops.specs.Carried.{is_cut}
use Rattle.namespace_ops.specs.Entries.{JournalEntry, Reply}
use Rattle.namespace_ops.specs.Counted.{Answered, State, namespaces_in, steps_before}
use Rattle.namespace_ops.specs.Replay.{is_memory, Kept, kept_after}
use Rattle.namespace_ops.specs.Registered.{kept_of}
use Rattle.namespace_ops.specs.Steps.{AreUncut, CutsPassTheFuse, Follow, JournalsSpendTheirSteps, steps_of, steps_of_entry, steps_unless}
use Rattle.namespace_ops.proofs.Journaled.{goes_on, lasted, meets, memory_is, no_memory}

-- ---- fuses

lasts_none : (fuse : Option ℕ) → lasts fuse 0 ≡ true
lasts_none None = refl
lasts_none (Some n) = le-leb 0 n (omega arith)

burnt_none : (fuse : Option ℕ) → fuse ≡ burnt fuse 0
burnt_none None = refl
burnt_none (Some n) = ap (λ (k : ℕ). Some k) (omega arith)

lasts_both : (fuse : Option ℕ) (a b : ℕ) → lasts fuse a ≡ true → lasts (burnt fuse a) b ≡ true → lasts fuse (a + b) ≡ true
lasts_both None a b x y = refl
lasts_both (Some n) a b x y = le-leb (a + b) n (let p : a ≤ n = leb-true a n x in let q : b ≤ n - a = leb-true b (n - a) y in omega (arith, p, q))

burnt_both : (fuse : Option ℕ) (a b : ℕ) → burnt (burnt fuse a) b ≡ burnt fuse (a + b)
burnt_both None a b = refl
burnt_both (Some n) a b = ap (λ (k : ℕ). Some k) (omega arith)

short_first : (fuse : Option ℕ) (a b : ℕ) → lasts fuse a ≡ false → lasts fuse (a + b) ≡ false
short_first None a b x = x
short_first (Some n) a b x = lt-leb (a + b) n (let p : n < a = leb-false a n x in omega (arith, p))

short_then : (fuse : Option ℕ) (a b : ℕ) → lasts fuse a ≡ true → lasts (burnt fuse a) b ≡ false → lasts fuse (a + b) ≡ false
short_then None a b x y = y
short_then (Some n) a b x y = lt-leb (a + b) n (let p : a ≤ n = leb-true a n x in let q : n - a < b = leb-false b (n - a) y in omega (arith, p, q))

cut_fails : (r : Reply) → is_cut r ≡ true → is_ok r ≡ false
cut_fails (Ok x) e = absurd (false≢true e)
cut_fails (Err f) e = refl

-- ---- one call, with power on before it

module _ (old new : State) (fuse left : Option ℕ) (e : JournalEntry) (is : Answered old new fuse left e.command e.reply) (running : old.stopped ≡ false) where
  abbrev before : ℕ
  before = steps_before e.command

  abbrev behind : ℕ
  behind = steps_of_all (areas_seen old.areas) (changes_of (namespaces_in old) (areas_seen old.areas) e.command)

  abbrev Spends : ℕ → Type 0
  Spends n = (lasts fuse n ≡ true) × (left ≡ burnt fuse n)

  made_all : is_memory e.reply ≡ false → is_cut e.reply ≡ false → refusal_of (namespaces_in old) e.command ≡ None → (r : Reply) → e.reply ≡ r → Spends (before + behind)
  made_all other uncut none (Err f) err =
      absurd (false≢true (sym uncut ∙ ap is_cut (err ∙ ap (λ (x : OpRefused). Err x) (is.cut (goes_on old new fuse left e.tag e.command e.reply is running other) none f err))))
  made_all other uncut none (Ok x) ok =
      let goes = goes_on old new fuse left e.tag e.command e.reply is running other in
      let whole = lasted old new fuse left e.tag e.command e.reply is running goes none x ok in
      let went = is.went goes none whole in
      (lasts_both fuse before behind whole (sym went.made ∙ ap (λ (r : Reply). is_ok r) ok), went.left_is ∙ burnt_both fuse before behind)

  made_or : is_memory e.reply ≡ false → is_cut e.reply ≡ false → (o : Option OpRefused) → refusal_of (namespaces_in old) e.command ≡ o → Spends (steps_unless old.sets (kept_of old) e.command o)
  made_or other uncut (Some f) at = (lasts_none fuse, (is.refused (goes_on old new fuse left e.tag e.command e.reply is running other) f at).2 ∙ burnt_none fuse)
  made_or other uncut None at = made_all other uncut at e.reply refl

  pub spent_step : is_cut e.reply ≡ false → Spends (steps_of_entry old.sets (kept_of old) e)
  spent_step uncut = by (cases_Bool (is_memory e.reply))
    where
      by : (is_memory e.reply ≡ true) ⊎ (is_memory e.reply ≡ false) → Spends (steps_of_entry old.sets (kept_of old) e)
      by (inl it) = rw it (lasts_none fuse, (is.memory (memory_is e.reply it)).1 ∙ burnt_none fuse)
      by (inr other) = rw other (made_or other uncut (refusal_of (namespaces_in old) e.command) refl)

  cut_or : is_memory e.reply ≡ false → is_cut e.reply ≡ true → (o : Option OpRefused) → refusal_of (namespaces_in old) e.command ≡ o → lasts fuse (steps_unless old.sets (kept_of old) e.command o) ≡ false
  cut_or other cut (Some f) at =
      let same = (is.refused (goes_on old new fuse left e.tag e.command e.reply is running other) f at).1 in
      absurd (false≢true (sym running ∙ sym (ap (λ (x : State). x.stopped) same) ∙ is.stopped running ∙ cut))
  cut_or other cut None at = by (cases_Bool (lasts fuse before))
    where
      by : (lasts fuse before ≡ true) ⊎ (lasts fuse before ≡ false) → lasts fuse (before + behind) ≡ false
      by (inl whole) =
          let went = is.went (goes_on old new fuse left e.tag e.command e.reply is running other) at whole in
          short_then fuse before behind whole (sym went.made ∙ cut_fails e.reply cut)
      by (inr short) = short_first fuse before behind short

  pub cut_step : is_cut e.reply ≡ true → lasts fuse (steps_of_entry old.sets (kept_of old) e) ≡ false
  cut_step cut = by (cases_Bool (is_memory e.reply))
    where
      by : (is_memory e.reply ≡ true) ⊎ (is_memory e.reply ≡ false) → lasts fuse (steps_of_entry old.sets (kept_of old) e) ≡ false
      by (inl it) = absurd (no_memory old new fuse left e.tag e.command e.reply is running cut it)
      by (inr other) = rw other (cut_or other cut (refusal_of (namespaces_in old) e.command) refl)

  -- what follows begins with what the entry leaves
  pub behind_same : (es : List JournalEntry) → is_cut e.reply ≡ false → steps_of new.sets (kept_of new) es ≡ steps_of old.sets (kept_after old.sets (kept_of old) e) es
  behind_same es uncut =
      let m = meets old new fuse left e.tag e.command e.reply is running (is.stopped running ∙ uncut) in
      ap (λ (sets : List (List Mapping)). steps_of sets (kept_of new) es) is.sets ∙ ap (λ (k : Kept). steps_of old.sets k es) (sym m.kept)

-- ---- calls one after another

spent_all : (es : List JournalEntry) (s now : State) (fuse left : Option ℕ) → s.stopped ≡ false → Follow s fuse es now left → AreUncut es
    → (lasts fuse (steps_of s.sets (kept_of s) es) ≡ true) × (left ≡ burnt fuse (steps_of s.sets (kept_of s) es))
unfolding steps_of Follow
spent_all [] s now fuse left running follow uncut = (lasts_none fuse, follow.1 ∙ burnt_none fuse)
spent_all (e ∷ es) s now fuse left running (mid, rest, is, more) (one, others) =
    let step = spent_step s mid fuse rest e is running one in
    let on = spent_all es mid now rest left (is.stopped running ∙ one) more others in
    let same = behind_same s mid fuse rest e is running es one in
    let n : ℕ = steps_of_entry s.sets (kept_of s) e in
    let k : ℕ = steps_of s.sets (kept_after s.sets (kept_of s) e) es in (
      lasts_both fuse n k step.0 (ap (λ (f : Option ℕ). lasts f k) (sym step.1) ∙ ap (lasts rest) (sym same) ∙ on.0),
      on.1 ∙ ap (burnt rest) same ∙ ap (λ (f : Option ℕ). burnt f k) step.1 ∙ burnt_both fuse n k,
    )

pub spent : JournalsSpendTheirSteps
spent s now fuse left es running follow uncut = spent_all es s now fuse left running follow uncut

passed_all : (before later : List JournalEntry) (e : JournalEntry) (s now : State) (fuse left : Option ℕ) → s.stopped ≡ false → Follow s fuse (before ++ e ∷ later) now left → AreUncut before → is_cut e.reply ≡ true
    → (lasts fuse (steps_of s.sets (kept_of s) before) ≡ true) × (lasts fuse (steps_of s.sets (kept_of s) (before ++ e ∷ [])) ≡ false)
unfolding steps_of Follow
passed_all [] later e s now fuse left running (mid, rest, is, more) uncut cut =
    (lasts_none fuse, short_first fuse (steps_of_entry s.sets (kept_of s) e) 0 (cut_step s mid fuse rest e is running cut))
passed_all (x ∷ before) later e s now fuse left running (mid, rest, is, more) (one, others) cut =
    let step = spent_step s mid fuse rest x is running one in
    let on = passed_all before later e mid now rest left (is.stopped running ∙ one) more others cut in
    let same = behind_same s mid fuse rest x is running before one in
    let same_more = behind_same s mid fuse rest x is running (before ++ e ∷ []) one in
    let n : ℕ = steps_of_entry s.sets (kept_of s) x in
    let k : ℕ = steps_of s.sets (kept_after s.sets (kept_of s) x) before in
    let m : ℕ = steps_of s.sets (kept_after s.sets (kept_of s) x) (before ++ e ∷ []) in (
      lasts_both fuse n k step.0 (ap (λ (f : Option ℕ). lasts f k) (sym step.1) ∙ ap (lasts rest) (sym same) ∙ on.0),
      short_then fuse n m step.0 (ap (λ (f : Option ℕ). lasts f m) (sym step.1) ∙ ap (lasts rest) (sym same_more) ∙ on.1),
    )

pub passed : CutsPassTheFuse
passed s now fuse left before later e running follow uncut cut = passed_all before later e s now fuse left running follow uncut cut
