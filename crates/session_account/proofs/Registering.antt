-- The registry's promises make a journal.
use Rattle.std.proofs.Common.{◌≡◌, ◌⊎◌, inl, inr, ℕ, ◌-◌, Bool, true, false, List, [], ◌∷◌, ◌++◌, map, Option, Some, None, Ok, Err, refl, sym, ap, ◌∙◌, subst, arith}
use Rattle.std.specs.Prelude.{MatchBool, OnOk, is_ok}
use Rattle.std.specs.List.{AllByRecursion}
use Rattle.nvd_words.specs.Checks.{value_unless}
use Rattle.cut_words.specs.Fuses.{burnt, lasts}
use Rattle.nfit_reader.specs.declared.table.Mapping.{Mapping}
use Rattle.namespace_areas.specs.declared.area.Area.{Area}
use Rattle.namespace_map.specs.declared.refused.OpRefused.{OpRefused}
use Rattle.namespace_map.specs.Areas.{steps_of_all}
use Rattle.namespace_map.specs.Changes.{changes_of}
use Rattle.namespace_map.specs.Commands.{refusal_of, done}
use Rattle.namespace_areas.specs.Seen.{AreLeft as AreasLeft, areas_shown, areas_seen, words_of}
use Rattle.namespace_areas.specs.Steps.{Rows, after_all, all_settled, all_steps, front, rows_of}
use Rattle.namespace_ops.specs.Entries.{JournalEntry, Reply}
use Rattle.namespace_map.specs.declared.commands.Command.{Command}
use Rattle.namespace_map.specs.declared.commands.Command.TheVariants as command
use Rattle.namespace_map.specs.declared.commands.Make.{Make}
use Rattle.namespace_map.specs.declared.commands.Make.TheVariants as make
use Rattle.namespace_areas.specs.Went.{Went}
use Rattle.sector_namespaces.specs.Creation.{arena_steps_of, has_sectors}
use Rattle.namespace_ops.specs.Counted.{State, makes_sectors, namespaces_in, steps_before}
use Rattle.namespace_ops.specs.Registered.{kept_of}
use Rattle.namespace_ops.specs.Replay.{Kept, kept_by}
use Rattle.session_account.specs.Journal.{changes_at, steps_by, steps_at, kept_with, IsOff, IsJournal, AreLeft}
use Rattle.session_account.specs.Words.{AreasHold, words_by, words_with}
use Rattle.session_account.specs.Registering.{WentOn, WentOff, AnswersMakeEntries, end_kept, end_words, end_fuse, AllOn, OnGrows, OnIsJournal, OffIsJournal}

lasts_zero : (fuse : Option ℕ) → lasts fuse 0 ≡ true
lasts_zero None = refl
lasts_zero (Some n) = grind arith

burnt_zero : (fuse : Option ℕ) → fuse ≡ burnt fuse 0
burnt_zero None = refl
burnt_zero (Some n) = let e : n ≡ n - 0 = omega arith in ap (λ (n : ℕ). Some n) e

-- a fuse that doesn't last is one
has_fuse : (fuse : Option ℕ) (count : ℕ) → lasts fuse count ≡ false → (n : ℕ) × (fuse ≡ Some n)
has_fuse None count h = absurd (cc)
has_fuse (Some n) count h = (n, refl)

raw_steps : (made : Make) (size : ℕ) → has_sectors made ≡ false → arena_steps_of size made ≡ 0
raw_steps make.Raw size h = refl
raw_steps (make.Sector sector lanes) size h = absurd (cc)

plain_steps : (c : Command) → makes_sectors c ≡ false → steps_before c ≡ 0
plain_steps (command.Create spec) h = raw_steps spec.make spec.size h
plain_steps (command.Delete uuid) h = refl
plain_steps (command.Rename uuid name) h = refl
plain_steps (command.Claim uuid) h = refl
plain_steps (command.Unclaim uuid) h = refl

pub answers_make_entries : AnswersMakeEntries
answers_make_entries old new fuse left tag c reply a plain on memory = by (refusal_of (namespaces_in old) c) refl
  where
    sets : List (List Mapping)
    sets = old.sets

    e : JournalEntry
    e = record { tag = tag; command = c; reply = reply }

    -- no step comes before those of the label changes
    none : steps_before c ≡ 0
    none = plain_steps c plain

    went_plain : refusal_of (namespaces_in old) c ≡ None → Went old.areas new.areas fuse left (changes_of (namespaces_in old) (areas_seen old.areas) c) (is_ok reply)
    went_plain is = subst (λ (f : Option ℕ). Went old.areas new.areas f left (changes_of (namespaces_in old) (areas_seen old.areas) c) (is_ok reply))
        (ap (burnt fuse) none ∙ sym (burnt_zero fuse)) (a.went (on, memory) is (ap (lasts fuse) none ∙ lasts_zero fuse))

    refused : (f : OpRefused) → refusal_of (namespaces_in old) c ≡ Some f → WentOn sets (kept_of old) (kept_of new) (rows_of old.areas) (rows_of new.areas) fuse left e
    refused f is =
        let h = a.refused (on, memory) f is in
        let zero_steps : steps_at sets (kept_of old) e ≡ 0 = ap (steps_by sets (kept_of old) e) is in
        record {
          lasted = ap (lasts fuse) zero_steps ∙ lasts_zero fuse;
          reply = h.0 ∙ sym (ap (λ (r : Option OpRefused). value_unless tt r) is);
          kept = ap kept_of h.1 ∙ sym (ap (kept_by sets (kept_of old) c) is);
          words = ap (λ (s : State). rows_of s.areas) h.1 ∙ sym (ap (words_by sets (kept_of old) e (rows_of old.areas)) is);
          left_is = h.2 ∙ burnt_zero fuse ∙ ap (burnt fuse) (sym zero_steps);
        }

    went : refusal_of (namespaces_in old) c ≡ None → (r : Reply) → reply ≡ r → WentOn sets (kept_of old) (kept_of new) (rows_of old.areas) (rows_of new.areas) fuse left e ⊎ WentOff sets (kept_of old) (rows_of old.areas) fuse e new.areas
    went is (Ok tt) ok =
        let w = went_plain is in
        let steps : steps_at sets (kept_of old) e ≡ steps_of_all (areas_seen old.areas) (changes_at sets (kept_of old) e) = ap (steps_by sets (kept_of old) e) is in
        let whole : is_ok reply ≡ true = ap is_ok ok in
        let done_so : namespaces_in new ≡ done (namespaces_in old) c = subst (λ (r : Reply). OnOk r (namespaces_in new ≡ done (namespaces_in old) c)) ok a.done in
        inl (record {
          lasted = ap (lasts fuse) steps ∙ sym w.made ∙ whole;
          reply = ok ∙ sym (ap (λ (r : Option OpRefused). value_unless tt r) is);
          kept = (λ i. record { areas = w.done whole i; claims = (done_so i).claims }) ∙ sym (ap (kept_by sets (kept_of old) c) is);
          words = w.rows whole ∙ sym (ap (words_by sets (kept_of old) e (rows_of old.areas)) is);
          left_is = w.left_is ∙ ap (burnt fuse) (sym steps);
        })
    went is (Err f) err =
        let w = went_plain is in
        let steps : steps_at sets (kept_of old) e ≡ steps_of_all (areas_seen old.areas) (changes_at sets (kept_of old) e) = ap (steps_by sets (kept_of old) e) is in
        let short : lasts fuse (steps_of_all (areas_seen old.areas) (changes_at sets (kept_of old) e)) ≡ false = sym w.made ∙ ap is_ok err in
        let n = has_fuse fuse (steps_of_all (areas_seen old.areas) (changes_at sets (kept_of old) e)) short in
        inr (record {
          short = ap (lasts fuse) steps ∙ short;
          off = err ∙ ap (λ (f : OpRefused). Err f) (a.cut (on, memory) is f err);
          cut = λ rows left_rows. (n.0, n.1, w.cut n.0 n.1 rows left_rows);
          words = (n.0, n.1, w.makes.words ∙ ap (λ (f : Option ℕ). after_all (all_settled (rows_of old.areas)) (front f (all_steps (rows_of old.areas) (changes_at sets (kept_of old) e)))) n.1);
        })

    by : (r : Option OpRefused) → refusal_of (namespaces_in old) c ≡ r → WentOn sets (kept_of old) (kept_of new) (rows_of old.areas) (rows_of new.areas) fuse left e ⊎ WentOff sets (kept_of old) (rows_of old.areas) fuse e new.areas
    by (Some f) is = inl (refused f is)
    by None is = went is reply refl

-- ---- journals

match_true : (b : Bool) (P Q : Type 0) → b ≡ true → P → MatchBool b P Q
match_true true P Q e p = p
match_true false P Q e p = absurd (cc)

match_false : (b : Bool) (P Q : Type 0) → b ≡ false → Q → MatchBool b P Q
match_false true P Q e q = absurd (cc)
match_false false P Q e q = q

all_grows : (sets : List (List Mapping)) (k : Kept) (rows : Rows) (fuse : Option ℕ) (journal : List JournalEntry) (e : JournalEntry) (now : Kept) (words : Rows) (left : Option ℕ) → AllOn sets k fuse journal
    → WentOn sets (end_kept sets k journal) now (end_words sets k rows journal) words (end_fuse sets k fuse journal) left e
    → AllOn sets k fuse (journal ++ e ∷ []) × (end_kept sets k (journal ++ e ∷ []) ≡ now) × (end_words sets k rows (journal ++ e ∷ []) ≡ words) × (end_fuse sets k fuse (journal ++ e ∷ []) ≡ left)
unfolding AllOn
all_grows sets k rows fuse [] e now words left all w = ((w.lasted, w.reply, tt), sym w.kept, sym w.words, sym w.left_is)
all_grows sets k rows fuse (x ∷ xs) e now words left all w =
    let h = all_grows sets (kept_with sets k x) (words_with sets k x rows) (burnt fuse (steps_at sets k x)) xs e now words left all.2 w in
    ((all.0, all.1, h.0), h.1, h.2, h.3)

pub on_grows : OnGrows
on_grows sets from now now' rows words words' fuse left left' journal e on w =
    let w' : WentOn sets (end_kept sets from journal) now' (end_words sets from rows journal) words' (end_fuse sets from fuse journal) left' e =
    subst (λ (k : Kept). WentOn sets k now' (end_words sets from rows journal) words' (end_fuse sets from fuse journal) left' e) (sym on.kept)
    (subst (λ (rs : Rows). WentOn sets now now' rs words' (end_fuse sets from fuse journal) left' e) (sym on.words_are)
    (subst (λ (f : Option ℕ). WentOn sets now now' words words' f left' e) (sym on.left_is) w)) in
    let h = all_grows sets from rows fuse journal e now' words' left' on.all w' in
    record { all = h.0; kept = h.1; words_are = h.2; left_is = h.3 }

journal_of : (sets : List (List Mapping)) (k : Kept) (rows : Rows) (fuse : Option ℕ) (journal : List JournalEntry) → AllOn sets k fuse journal
    → IsJournal sets k fuse journal × AreLeft sets k fuse journal (end_kept sets k journal).areas × AreasHold sets k rows fuse journal (all_settled (end_words sets k rows journal))
unfolding AllOn IsJournal AreLeft AreasHold
journal_of sets k rows fuse [] all = (tt, refl, refl)
journal_of sets k rows fuse (x ∷ xs) all =
    let h = journal_of sets (kept_with sets k x) (words_with sets k x rows) (burnt fuse (steps_at sets k x)) xs all.2 in (
      match_true (lasts fuse (steps_at sets k x)) _ _ all.0 (all.1, h.0),
      match_true (lasts fuse (steps_at sets k x)) _ _ all.0 h.1,
      match_true (lasts fuse (steps_at sets k x)) _ _ all.0 h.2,
    )

pub on_is_journal : OnIsJournal
on_is_journal sets from now rows words fuse left journal on =
    let h = journal_of sets from rows fuse journal on.all in
    (h.0, subst (λ (k : Kept). AreLeft sets from fuse journal k.areas) on.kept h.1, subst (λ (rs : Rows). AreasHold sets from rows fuse journal (all_settled rs)) on.words_are h.2)

off_journal : (sets : List (List Mapping)) (k : Kept) (rows : Rows) (fuse : Option ℕ) (journal later : List JournalEntry) (e : JournalEntry) (areas : List Area) → AllOn sets k fuse journal
    → WentOff sets (end_kept sets k journal) (end_words sets k rows journal) (end_fuse sets k fuse journal) e areas → AllByRecursion IsOff later
    → IsJournal sets k fuse (journal ++ e ∷ later) × ((crash : List (Option (List ℕ))) → AreasLeft areas crash → AreLeft sets k fuse (journal ++ e ∷ later) (areas_shown crash))
    × AreasHold sets k rows fuse (journal ++ e ∷ later) (map words_of areas)
unfolding AllOn IsJournal AreLeft AreasHold
off_journal sets k rows fuse [] later e areas all w offs = (
  match_false (lasts fuse (steps_at sets k e)) _ _ w.short (w.off, offs),
  λ crash left. match_false (lasts fuse (steps_at sets k e)) _ _ w.short (w.cut crash left),
  match_false (lasts fuse (steps_at sets k e)) _ _ w.short w.words,
)
off_journal sets k rows fuse (x ∷ xs) later e areas all w offs =
    let h = off_journal sets (kept_with sets k x) (words_with sets k x rows) (burnt fuse (steps_at sets k x)) xs later e areas all.2 w offs in (
      match_true (lasts fuse (steps_at sets k x)) _ _ all.0 (all.1, h.0),
      λ crash left. match_true (lasts fuse (steps_at sets k x)) _ _ all.0 (h.1 crash left),
      match_true (lasts fuse (steps_at sets k x)) _ _ all.0 h.2,
    )

pub off_is_journal : OffIsJournal
off_is_journal sets from now rows words fuse left journal later e areas on w offs =
    let w' : WentOff sets (end_kept sets from journal) (end_words sets from rows journal) (end_fuse sets from fuse journal) e areas =
    subst (λ (k : Kept). WentOff sets k (end_words sets from rows journal) (end_fuse sets from fuse journal) e areas) (sym on.kept)
    (subst (λ (rs : Rows). WentOff sets now rs (end_fuse sets from fuse journal) e areas) (sym on.words_are)
    (subst (λ (f : Option ℕ). WentOff sets now words f e areas) (sym on.left_is) w)) in
    off_journal sets from rows fuse journal later e areas on.all w' offs
