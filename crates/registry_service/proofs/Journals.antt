-- A call more of the registry behind its lock: the answered calls go on as a journal under the fuse.
use Rattle.std.proofs.Common.{◌≡◌, ◌≢◌, ◌⊎◌, inl, inr, ℕ, Bool, true, false, not, cond, List, [], ◌∷◌, ◌++◌, Option, Some, None, Err, refl, sym, ap, ◌∙◌, subst, append_assoc, append-nil}
use Rattle.std.specs.Prelude.{IsSome}
use Rattle.std.proofs.lemmas.List.Elements.{filter-append}
use Rattle.nvd_words.specs.declared.tag.Tag.{Tag}
use Rattle.cut_words.specs.Fuses.{lasts}
use Rattle.nfit_reader.specs.declared.table.Mapping.{Mapping}
use Rattle.namespace_areas.specs.declared.area.Area.{Area}
use Rattle.namespace_areas.specs.Seen.{areas_seen}
use Rattle.namespace_areas.specs.Steps.{Rows, rows_of}
use Rattle.namespace_map.specs.declared.commands.Command.{Command}
use Rattle.namespace_map.specs.declared.refused.OpRefused.{OpRefused}
use Rattle.namespace_map.specs.declared.refused.OpRefused.TheVariants.{OutOfMemory}
use Rattle.namespace_map.specs.Commands.{refusal_of}
use Rattle.nvd_words.specs.Checks.{value_unless}
use Rattle.namespace_ops.specs.Carried.{is_cut}
use Rattle.namespace_ops.specs.Counted.{State, Answered, makes_sectors, namespaces_in}
use Rattle.namespace_ops.specs.Entries.{JournalEntry, Reply as Answer}
use Rattle.namespace_ops.specs.Registered.{kept_of}
use Rattle.namespace_ops.specs.Replay.{Kept, is_memory}
use Rattle.namespace_ops.proofs.Journaled.{memory_is}
use Rattle.session_account.specs.Journal.{IsOff, kept_with, steps_at}
use Rattle.session_account.specs.Registering.{IsOn, WentOff, WentOn, end_fuse}
use Rattle.session_account.proofs.Going.{all_more}
use Rattle.session_account.proofs.Registering.{answers_make_entries, on_grows}
use Rattle.registry_service.specs.Parts.{call_entry}
use Rattle.registry_service.specs.Served.{WasCut, answered}

-- what a registry began with
abbrev pub opening_on : List Area → Kept
opening_on areas = record { areas = areas_seen areas; claims = [] }

-- what the lock keeps of a journal, until power is cut and from then on
pub record Keeps (sets : List (List Mapping)) (opening : List Area) (first : Option ℕ) (journal : List JournalEntry) (s : State) (left : Option ℕ) : Type 0 where
  pub on : s.stopped ≡ false → IsOn sets (opening_on opening) (rows_of opening) first journal (kept_of s) (rows_of s.areas) left
  pub off : s.stopped ≡ true → WasCut sets (opening_on opening) (rows_of opening) first journal s.areas

-- ---- an entry that was answered

pub answered_more : (journal : List JournalEntry) (e : JournalEntry) → answered (journal ++ e ∷ []) ≡ answered journal ++ answered (e ∷ [])
answered_more journal e = filter-append (λ (e : JournalEntry). not (is_memory e.reply)) journal (e ∷ [])

pub one_answered : (e : JournalEntry) → is_memory e.reply ≡ false → answered (e ∷ []) ≡ e ∷ []
one_answered e h = ap (λ (b : Bool). cond (not b) (e ∷ []) []) h

pub one_forgotten : (e : JournalEntry) → is_memory e.reply ≡ true → answered (e ∷ []) ≡ []
one_forgotten e h = ap (λ (b : Bool). cond (not b) (e ∷ []) []) h

pub not_memory : (a : Answer) → is_memory a ≡ false → a ≢ Err OutOfMemory
not_memory a h is = let e : false ≡ true = sym h ∙ ap is_memory is in absurd (cc)

apart : (b : Bool) → b ≡ true → b ≡ false → ⊥
apart b t f = let e : true ≡ false = sym t ∙ f in absurd (cc)

-- ---- a call

module _ (s s' : State) (left left' : Option ℕ) (tag : Tag) (c : Command) (a : Answer) (is : Answered s s' left left' c a) (plain : makes_sectors c ≡ false) where
  -- while power is on, it is cut by a call that says so, and by no other
  went_on : s.stopped ≡ false → is_memory a ≡ false → WentOn s.sets (kept_of s) (kept_of s') (rows_of s.areas) (rows_of s'.areas) left left' (call_entry tag c a) → s'.stopped ≡ false
  went_on on memory w = by (refusal_of (namespaces_in s) c) refl
    where
      by : (r : Option OpRefused) → refusal_of (namespaces_in s) c ≡ r → s'.stopped ≡ false
      by (Some f) refused = ap (λ (x : State). x.stopped) (is.refused (on, not_memory a memory) f refused).1 ∙ on
      by None none = is.stopped on ∙ ap is_cut (w.reply ∙ ap (λ (r : Option OpRefused). value_unless tt r) none)

  went_off : s.stopped ≡ false → WentOff s.sets (kept_of s) (rows_of s.areas) left (call_entry tag c a) s'.areas → s'.stopped ≡ true
  went_off on w = is.stopped on ∙ ap is_cut w.off

same_keeps : (sets : List (List Mapping)) (opening : List Area) (first : Option ℕ) (journal : List JournalEntry) (s s' : State) (left left' : Option ℕ) → s' ≡ s → left' ≡ left → Keeps sets opening first journal s left → Keeps sets opening first journal s' left'
same_keeps sets opening first journal s s' left left' same spent k =
    subst (λ (x : State). Keeps sets opening first journal x left') (sym same) (subst (λ (f : Option ℕ). Keeps sets opening first journal s f) (sym spent) k)

-- power was cut before: one more says so
off_more : (sets : List (List Mapping)) (from : Kept) (rows : Rows) (first : Option ℕ) (journal : List JournalEntry) (areas : List Area) (e : JournalEntry) → IsOff e → WasCut sets from rows first journal areas
    → WasCut sets from rows first (journal ++ e ∷ []) areas
off_more sets from rows first journal areas e off w = record {
  before = w.before;
  entry = w.entry;
  later = w.later ++ e ∷ [];
  began = w.began;
  words = w.words;
  left = w.left;
  split = ap (λ (es : List JournalEntry). es ++ e ∷ []) w.split ∙ append_assoc w.before (w.entry ∷ w.later) (e ∷ []);
  on = w.on;
  off = w.off;
  same = all_more IsOff w.later e w.same off;
}

module _ (opening : List Area) (first : Option ℕ) (journal : List JournalEntry) (s s' : State) (left left' : Option ℕ) (tag : Tag) (c : Command) (a : Answer) (is : Answered s s' left left' c a) (plain : makes_sectors c ≡ false) where
  -- an answered call while power is on
  on_more : s.stopped ≡ false → is_memory a ≡ false → IsOn s.sets (opening_on opening) (rows_of opening) first journal (kept_of s) (rows_of s.areas) left
      → Keeps s.sets opening first (journal ++ call_entry tag c a ∷ []) s' left'
  on_more on memory k = by (answers_make_entries s s' left left' tag c a is plain on (not_memory a memory))
    where
      by : WentOn s.sets (kept_of s) (kept_of s') (rows_of s.areas) (rows_of s'.areas) left left' (call_entry tag c a) ⊎ WentOff s.sets (kept_of s) (rows_of s.areas) left (call_entry tag c a) s'.areas
          → Keeps s.sets opening first (journal ++ call_entry tag c a ∷ []) s' left'
      by (inl w) = record {
        on = λ _. on_grows s.sets (opening_on opening) (kept_of s) (kept_of s') (rows_of opening) (rows_of s.areas) (rows_of s'.areas) first left left' journal (call_entry tag c a) k w;
        off = λ stopped. absurd (apart s'.stopped stopped (went_on s s' left left' tag c a is plain on memory w));
      }
      by (inr w) = record {
        on = λ running. absurd (apart s'.stopped (went_off s s' left left' tag c a is plain on w) running);
        off = λ _. record { before = journal; entry = call_entry tag c a; later = []; began = kept_of s; words = rows_of s.areas; left = left; split = refl; on = k; off = w; same = tt };
      }

  -- any call
  pub keeps_more : Keeps s.sets opening first journal s left → Keeps s.sets opening first (journal ++ answered (call_entry tag c a ∷ [])) s' left'
  keeps_more k = by (is_memory a) refl s.stopped refl
    where
      by : (m : Bool) → is_memory a ≡ m → (b : Bool) → s.stopped ≡ b → Keeps s.sets opening first (journal ++ answered (call_entry tag c a ∷ [])) s' left'
      by true memory b _ =
          let h = is.memory (memory_is a memory) in
          let none : journal ++ answered (call_entry tag c a ∷ []) ≡ journal = ap (λ (es : List JournalEntry). journal ++ es) (one_forgotten (call_entry tag c a) memory) ∙ append-nil journal in
          subst (λ (es : List JournalEntry). Keeps s.sets opening first es s' left') (sym none) (same_keeps s.sets opening first journal s s' left left' h.0 h.1 k)
      by false memory false on =
          subst (λ (es : List JournalEntry). Keeps s.sets opening first (journal ++ es) s' left') (sym (one_answered (call_entry tag c a) memory)) (on_more on memory (k.on on))
      by false memory true off =
          let h = is.off off in
          let there : Keeps s.sets opening first (journal ++ call_entry tag c a ∷ []) s left = record {
            on = λ running. absurd (apart s.stopped off running);
            off = λ _. off_more s.sets (opening_on opening) (rows_of opening) first journal s.areas (call_entry tag c a) h.0 (k.off off);
          } in
          subst (λ (es : List JournalEntry). Keeps s.sets opening first (journal ++ es) s' left') (sym (one_answered (call_entry tag c a) memory))
          (same_keeps s.sets opening first (journal ++ call_entry tag c a ∷ []) s s' left left' h.1 h.2 there)

-- ---- a cut has a cause

no_fuse : (sets : List (List Mapping)) (k : Kept) (es : List JournalEntry) → end_fuse sets k None es ≡ None
no_fuse sets k [] = refl
no_fuse sets k (e ∷ es) = no_fuse sets (kept_with sets k e) es

-- power isn't cut if there was no fuse at first
pub cut_has_fuse : (sets : List (List Mapping)) (from : Kept) (rows : Rows) (first : Option ℕ) (journal : List JournalEntry) (areas : List Area) → WasCut sets from rows first journal areas → IsSome first
cut_has_fuse sets from rows (Some n) journal areas w = refl
cut_has_fuse sets from rows None journal areas w =
    let gone : w.left ≡ None = sym w.on.left_is ∙ no_fuse sets from w.before in
    let e : true ≡ false = sym (ap (λ (f : Option ℕ). lasts f (steps_at sets w.began w.entry)) gone) ∙ w.off.short in
    absurd (cc)
