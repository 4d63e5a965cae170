-- Worked rows, computed: journals on two modules of 32 MiB with label areas of 1,024 bytes, on which one namespace was made.
use Rattle.std.proofs.Common.{◌≡◌, inl, inr, ℕ, List, [], ◌∷◌, Option, Some, None, true, false, Ok, Err, codes, replicate, refl, sym, ap, ◌∙◌, subst}
use Rattle.std.specs.Prelude.{is_ok, map, slice_index_or, slice_set}
use Rattle.std.proofs.lemmas.Option.{none-some, same_Some}
use Rattle.nvd_words.specs.Bytes.{number_at}
use Rattle.nvd_words.specs.Checks.{first_fault, checked}
use Rattle.cut_words.specs.Words.{Words, settled}
use Rattle.nfit_reader.specs.declared.table.Mapping.{Mapping}
use Rattle.label_index.specs.Area.{greatest}
use Rattle.label_index.specs.Index.{has_signature, sequence_of, has_version, has_offsets, has_slots, has_checksum, index_of, free_of}
use Rattle.label_index.specs.Spelling.{spelling_of as block_spelling}
use Rattle.label_codec.specs.Label.{spelling_of as label_spelling}
use Rattle.label_area.specs.Init.{full_words}
use Rattle.label_set.specs.declared.placed.SetStatus.{SetStatus}
use Rattle.label_set.specs.declared.placed.SetStatus.TheVariants.{Complete}
use Rattle.label_set.specs.Status.{status_of}
use Rattle.namespace_map.specs.Namespaces.{Namespaces, NamespaceEntry, put_all, put}
use Rattle.namespace_map.specs.declared.commands.Make.TheVariants as make
use Rattle.namespace_map.specs.declared.commands.Named.TheVariants as named
use Rattle.namespace_map.specs.declared.commands.Command.{Command}
use Rattle.namespace_map.specs.declared.commands.Command.TheVariants as command
use Rattle.namespace_map.specs.declared.refused.OpRefused.TheVariants.{PowerCut, Busy, NoSuch}
use Rattle.namespace_map.specs.Areas.{Area, Change, steps_of_all, after_steps, all_changed}
use Rattle.namespace_map.specs.Commands.{taken_from, given_to, unfinished_gone}
use Rattle.namespace_map.specs.Changes.{namespaces_of, changes_of, rename_changes, by_position, by_position_with}
use Rattle.namespace_areas.specs.Seen.{areas_shown}
use Rattle.namespace_areas.specs.Steps.{Rows, after_all, all_rows, all_settled, all_steps, words_after}
use Rattle.namespace_ops.specs.Replay.{Kept}
use Rattle.session_script.specs.declared.script.Line.TheVariants as line
use Rattle.session_script.specs.declared.script.Order.TheVariants as order
use Rattle.session_account.specs.declared.reply.Reply.TheVariants as reply
use Rattle.session_account.specs.Orders.{entry, InJournal}
use Rattle.session_account.specs.Journal.{IsJournal, AreLeft}
use Rattle.session_account.specs.Recovered.{LeftRecovers, recovered_namespaces}
use Rattle.session_account.specs.Words.{AreasHold}

abbrev pair_mapping : ℕ → ℕ → ℕ → Mapping
pair_mapping number offset serial = record {
  «module» = number;
  size = 33554432;
  offset = offset;
  start = 0;
  ways = 2;
  lines = Some (record { size = 4096; offsets = 0 ∷ [] });
  identity = record { vendor = 0x1234; date = 0; location = 0; serial = serial };
}

abbrev sets : List (List Mapping)
sets = (pair_mapping 0 0 1 ∷ pair_mapping 1 4096 2 ∷ []) ∷ []

abbrev empty_area : Option Area
empty_area = Some (record { block = 256; slots = None ∷ None ∷ [] })

abbrev fresh : List (Option Area)
fresh = empty_area ∷ empty_area ∷ []

abbrev u : List ℕ
u = replicate 16 0x11

abbrev made : List (Option Area)
made = all_changed fresh (changes_of (namespaces_of sets fresh) fresh (command.Create (record { uuid = u; name = named.Good (codes "a"); region = 0; size = 33554432; make = make.Sector 512 256 })))

-- none is claimed
abbrev opening_of : List (Option Area) → Kept
opening_of areas = record { areas = areas; claims = [] }

abbrev rename_b : Command
rename_b = command.Rename u (named.Good (codes "b"))

-- power lasts for no step: a rename is cut, and nothing has changed
pub rename_off : IsJournal sets (opening_of made) (Some 0) (entry 0 0 rename_b (Err PowerCut) ∷ [])
unfolding IsJournal steps_of_all all_changed put_all put status_of first_fault checked by_position by_position_with taken_from given_to unfinished_gone
rename_off = (refl, tt)

pub rename_left : AreLeft sets (opening_of made) (Some 0) (entry 0 0 rename_b (Err PowerCut) ∷ []) made
unfolding AreLeft after_steps steps_of_all all_changed put_all put status_of first_fault checked by_position by_position_with taken_from given_to unfinished_gone
rename_left = (0, refl, inl refl)

-- it isn't answered as done
pub rename_not_done : IsJournal sets (opening_of made) (Some 0) (entry 0 0 rename_b (Ok tt) ∷ []) → ⊥
unfolding IsJournal steps_of_all all_changed put_all put status_of first_fault checked by_position by_position_with taken_from given_to unfinished_gone
rename_not_done h = let e : true ≡ false = ap is_ok h.0 in absurd (cc)

-- without such a line it isn't answered as cut
pub rename_not_cut : IsJournal sets (opening_of made) None (entry 0 0 rename_b (Err PowerCut) ∷ []) → ⊥
unfolding IsJournal steps_of_all all_changed put_all put status_of first_fault checked by_position by_position_with taken_from given_to unfinished_gone
rename_not_cut h = let e : false ≡ true = ap is_ok h.0 in absurd (cc)

-- a claim takes no step; a rename on two modules takes 520, and 519 are too few
pub one_short : IsJournal sets (opening_of made) (Some 519) (entry 0 0 (command.Claim u) (Ok tt) ∷ entry 1 0 rename_b (Err PowerCut) ∷ entry 0 1 (command.Unclaim u) (Err PowerCut) ∷ [])
unfolding IsJournal steps_of_all all_changed put_all put status_of first_fault checked by_position by_position_with taken_from given_to unfinished_gone
one_short = (refl, (refl, (refl, tt)))

pub enough : IsJournal sets (opening_of made) (Some 520) (entry 0 0 (command.Claim u) (Ok tt) ∷ entry 1 0 rename_b (Ok tt) ∷ entry 0 1 (command.Unclaim u) (Ok tt) ∷ [])
unfolding IsJournal steps_of_all all_changed put_all put status_of first_fault checked by_position by_position_with taken_from given_to unfinished_gone
enough = (refl, (refl, (refl, tt)))

-- a namespace that is claimed isn't deleted; when it was given back it is
pub busy : IsJournal sets (opening_of made) None (entry 0 0 (command.Claim u) (Ok tt) ∷ entry 1 0 (command.Delete u) (Err (Busy 1)) ∷ entry 0 1 (command.Unclaim u) (Ok tt) ∷ entry 1 1 (command.Delete u) (Ok tt) ∷ entry 0 2 (command.Claim u) (Err NoSuch) ∷ [])
unfolding IsJournal steps_of_all all_changed put_all put status_of first_fault checked by_position by_position_with taken_from given_to unfinished_gone
busy = (refl, (refl, (refl, (refl, (refl, tt)))))

-- a delete isn't answered `Busy` if nobody has the namespace open
pub not_busy : IsJournal sets (opening_of made) None (entry 1 0 (command.Delete u) (Err (Busy 0)) ∷ []) → ⊥
unfolding IsJournal steps_of_all all_changed put_all put status_of first_fault checked by_position by_position_with taken_from given_to unfinished_gone
not_busy h = let e : false ≡ true = ap is_ok h.0 in absurd (cc)

-- the session that asked is answered `cut` alone, and its second call isn't made
pub told_cut : InJournal 0 (line.Order (order.Rename u (codes "b")) ∷ line.Read 0 ∷ []) (reply.Cut ∷ []) (entry 0 0 rename_b (Err PowerCut) ∷ [])
told_cut = record { last = entry 0 0 rename_b (Err PowerCut) ∷ []; entries = refl; is_last = inr refl }

-- ---- recovered

-- a rename on two modules is four changes of 130 steps each; nothing comes before them, since it isn't pending
abbrev renamed_by : ℕ → List (Option Area)
renamed_by steps = after_steps made (rename_changes u (named.Good (codes "b")) made) steps true

-- after the first of them recovery leads back to the old name
same_before : recovered_namespaces sets (renamed_by 200) ≡ recovered_namespaces sets made
unfolding after_steps steps_of_all all_changed put_all put status_of first_fault checked by_position by_position_with taken_from given_to unfinished_gone
same_before = refl

pub to_before : LeftRecovers sets (opening_of made) (Some 200) (entry 0 0 rename_b (Err PowerCut) ∷ []) (renamed_by 200)
unfolding LeftRecovers after_steps steps_of_all all_changed put_all put status_of first_fault checked by_position by_position_with taken_from given_to unfinished_gone
to_before = inl same_before

abbrev statuses : Namespaces → List SetStatus
statuses ns = map (λ (e : NamespaceEntry). e.status) ns.entries

pub names_before : statuses (recovered_namespaces sets (renamed_by 200)) ≡ Complete (codes "a") false ∷ []
unfolding after_steps steps_of_all all_changed put_all put status_of first_fault checked by_position by_position_with taken_from given_to unfinished_gone
names_before = refl

-- after the second it leads on to the new one
pub names_after : statuses (recovered_namespaces sets (renamed_by 300)) ≡ Complete (codes "b") false ∷ []
unfolding after_steps steps_of_all all_changed put_all put status_of first_fault checked by_position by_position_with taken_from given_to unfinished_gone
names_after = refl

-- a delete that begins while the rename is pending settles the namespace first: cut after two changes it is whole, under its old name
pub names_agree : statuses (recovered_namespaces sets (after_steps (renamed_by 200) (changes_of (namespaces_of sets (renamed_by 200)) (renamed_by 200) (command.Delete u)) 300 true)) ≡ Complete (codes "a") false ∷ []
unfolding after_steps steps_of_all all_changed put_all put status_of first_fault checked by_position by_position_with taken_from given_to unfinished_gone
names_agree = refl

-- ---- the words when power was cut

-- those of an area that is initialised, with no label
abbrev blank : List ℕ
blank = full_words (replicate 128 0) 256 2

abbrev blanks : Rows
blanks = Some blank ∷ Some blank ∷ []

pub blanks_shown : areas_shown blanks ≡ fresh
unfolding greatest checked has_signature sequence_of has_version has_offsets has_slots has_checksum index_of free_of number_at block_spelling
blanks_shown = refl

abbrev create_u : Command
create_u = command.Create (record { uuid = u; name = named.Good (codes "a"); region = 0; size = 33554432; make = make.Raw })

abbrev create_changes : List Change
create_changes = changes_of (namespaces_of sets fresh) fresh create_u

-- half of the UUID is the first word of the label that is put, and has word 64 of the first module's area
abbrev half_uuid : ℕ
half_uuid = 0x1111111111111111

abbrev stored_in : Option Words → List (Option ℕ)
stored_in None = []
stored_in (Some words) = words.stored

-- what is pending there
abbrev pending_half : List (Option Words) → Option ℕ
pending_half areas = slice_index_or (stored_in (slice_index_or areas 0 None)) 64 None

-- the words when power was cut in the create after so many steps
abbrev HoldAfter : ℕ → List (Option Words) → Type 0
HoldAfter steps areas = AreasHold sets (opening_of fresh) blanks (Some steps) (entry 0 0 create_u (Err PowerCut) ∷ []) areas

-- after one step this word is pending, and no other
pub one_stored : HoldAfter 1 (Some (record { kept = blank; stored = slice_set (replicate 128 None) 64 (Some half_uuid) }) ∷ Some (settled blank) ∷ [])
unfolding AreasHold all_steps all_rows after_all steps_of_all all_changed put_all put status_of first_fault checked by_position by_position_with taken_from given_to unfinished_gone greatest has_signature sequence_of has_version has_offsets has_slots has_checksum index_of free_of number_at block_spelling label_spelling
one_stored = (1, refl, refl)

-- it isn't flushed then, nor is it as before that step
pub not_flushed : (areas : List (Option Words)) → pending_half areas ≡ None → HoldAfter 1 areas → ⊥
unfolding AreasHold all_steps all_rows after_all steps_of_all all_changed put_all put status_of first_fault checked by_position by_position_with taken_from given_to unfinished_gone greatest has_signature sequence_of has_version has_offsets has_slots has_checksum index_of free_of number_at block_spelling label_spelling
not_flushed areas none (steps, is, are) =
    let there : Some half_uuid ≡ pending_half areas = subst (λ (n : ℕ). pending_half (words_after blanks create_changes n) ≡ pending_half areas) (sym (same_Some 1 steps is)) (ap pending_half (sym are)) in
    absurd (none-some half_uuid (sym (there ∙ none)))

-- 32 steps store the label, and the next one flushes this word: with one step fewer it is pending
pub all_stored : pending_half (words_after blanks create_changes 32) ≡ Some half_uuid
unfolding AreasHold all_steps all_rows after_all steps_of_all all_changed put_all put status_of first_fault checked by_position by_position_with taken_from given_to unfinished_gone greatest has_signature sequence_of has_version has_offsets has_slots has_checksum index_of free_of number_at block_spelling label_spelling
all_stored = refl

pub not_one_fewer : HoldAfter 33 (words_after blanks create_changes 32) → ⊥
unfolding AreasHold all_steps all_rows after_all steps_of_all all_changed put_all put status_of first_fault checked by_position by_position_with taken_from given_to unfinished_gone greatest has_signature sequence_of has_version has_offsets has_slots has_checksum index_of free_of number_at block_spelling label_spelling
not_one_fewer (steps, is, are) = absurd (none-some half_uuid (sym (ap pending_half are ∙ ap (λ (n : ℕ). pending_half (words_after blanks create_changes n)) (sym (same_Some 33 steps is)))))

-- a command that is refused stores nothing
pub none_stored : AreasHold sets (opening_of fresh) blanks (Some 0) (entry 0 0 (command.Delete u) (Err NoSuch) ∷ []) (all_settled blanks)
unfolding AreasHold all_steps all_rows after_all steps_of_all all_changed put_all put status_of first_fault checked by_position by_position_with taken_from given_to unfinished_gone greatest has_signature sequence_of has_version has_offsets has_slots has_checksum index_of free_of number_at block_spelling label_spelling
none_stored = refl
