-- The namespaces after a cut in a journal, before they are recovered: by the tables of the laws on one command.
use Rattle.std.specs.Prelude.{◌≡◌, ◌≢◌, ℕ, List, [], ◌∷◌, Option, Some, MatchBool}
use Rattle.cut_words.specs.Fuses.{burnt, lasts}
use Rattle.nfit_reader.specs.declared.table.Mapping.{Mapping}
use Rattle.namespace_map.specs.Areas.{Area}
use Rattle.namespace_map.specs.Changes.{namespaces_of}
use Rattle.namespace_map.specs.Commands.{name_in, new_entry}
use Rattle.namespace_map.specs.declared.commands.Command.{Command}
use Rattle.namespace_map.specs.declared.commands.Command.TheVariants.{Claim, Create, Delete, Rename, Unclaim}
use Rattle.namespace_map.specs.Left.{AreRegions, LabelsAreRead}
use Rattle.namespace_map.specs.Namespaces.{NamespaceEntry, Namespaces, lookup}
use Rattle.namespace_laws.specs.Laws.{CutOfAny, CutOfCreate, CutOfDelete, CutOfRename}
use Rattle.namespace_ops.specs.Entries.{JournalEntry}
use Rattle.namespace_ops.specs.Replay.{Kept}
use Rattle.session_account.specs.Journal.{AreLeft, kept_with, steps_at}

-- the UUID of the namespace that a command is about
abbrev pub named_by : Command → List ℕ
named_by (Create spec) = spec.uuid
named_by (Delete uuid) = uuid
named_by (Rename uuid name) = uuid
named_by (Claim uuid) = uuid
named_by (Unclaim uuid) = uuid

-- the command's own namespace after a cut in it: one of the states of its table. A claim changes no label.
abbrev pub CutOfOwn : Namespaces → Command → Option NamespaceEntry → Type 0
CutOfOwn ns (Create spec) left = CutOfCreate (new_entry ns spec) left
CutOfOwn ns (Delete uuid) left = (e : NamespaceEntry) × (lookup uuid ns.entries ≡ Some e) × CutOfAny e (λ x. CutOfDelete x left) left
CutOfOwn ns (Rename uuid name) left = (e : NamespaceEntry) × (lookup uuid ns.entries ≡ Some e) × CutOfAny e (λ x. CutOfRename x (name_in name) left) left
CutOfOwn ns (Claim uuid) left = left ≡ lookup uuid ns.entries
CutOfOwn ns (Unclaim uuid) left = left ≡ lookup uuid ns.entries

-- after a cut in a command each other namespace is as before it
pub record IsCutOff (before after : Namespaces) (c : Command) : Type 0 where
  pub others : (other : List ℕ) → other ≢ named_by c → lookup other after.entries ≡ lookup other before.entries
  pub own : CutOfOwn before c (lookup (named_by c) after.entries)

-- the areas at a journal's end have the namespaces that its commands made; or, if one was cut, those that it had made so far, but for that
-- command's own
unfoldable pub EndsCut : List (List Mapping) → Kept → Option ℕ → List JournalEntry → List (Option Area) → Type 0
EndsCut sets k fuse [] left = namespaces_of sets left ≡ namespaces_of sets k.areas
EndsCut sets k fuse (e ∷ es) left =
    MatchBool (lasts fuse (steps_at sets k e))
    (EndsCut sets (kept_with sets k e) (burnt fuse (steps_at sets k e)) es left)
    (IsCutOff (namespaces_of sets k.areas) (namespaces_of sets left) e.command)

-- a law: a cut in a journal changes no namespace but the one of the command that was cut
abbrev pub JournalsLeaveOthers : Type 0
JournalsLeaveOthers =
    (sets : List (List Mapping)) (from : Kept) (fuse : Option ℕ) (journal : List JournalEntry) (left : List (Option Area))
    → AreRegions sets → LabelsAreRead from.areas → AreLeft sets from fuse journal left → EndsCut sets from fuse journal left
