-- What becomes of label areas by a command on their namespaces.
use Rattle.std.specs.Prelude.{◌≡◌, ⊤, ℕ, Bool, true, false, List, Option, Some, None, Result, Err, is_ok}
use Rattle.nfit_reader.specs.declared.table.Mapping.{Mapping}
use Rattle.label_codec.specs.declared.label.Label.{Label}
use Rattle.label_codec.specs.Name.{HasNoZero}
use Rattle.namespace_areas.specs.declared.area.Area.{Area}
use Rattle.namespace_map.specs.declared.commands.Command.{Command}
use Rattle.namespace_map.specs.declared.commands.Command.TheVariants as command
use Rattle.namespace_map.specs.declared.commands.Named.{Named}
use Rattle.namespace_map.specs.declared.commands.Named.TheVariants as named
use Rattle.namespace_map.specs.declared.refused.OpRefused.{OpRefused}
use Rattle.namespace_map.specs.declared.refused.OpRefused.TheVariants.{PowerCut}
use Rattle.namespace_map.specs.Commands.{refusal_of}
use Rattle.namespace_map.specs.Namespaces.{lookup}
use Rattle.namespace_map.specs.Changes.{changes_of, in_two, namespaces_of, own_labels, settled_first, with_name}
use Rattle.label_codec.specs.Flags.{updated, updating}
use Rattle.namespace_map.specs.Areas.{Area as SeenArea, Change}
use Rattle.namespace_areas.specs.Seen.{areas_seen}
use Rattle.namespace_areas.specs.Went.{Went}
use Rattle.namespace_areas.specs.Refusals.{shown}
use Rattle.namespace_areas.specs.Groups.{Grouping, slots_in}
use Rattle.namespace_ops.specs.Held.{AreCurrent, HasRoomFor}
use Rattle.namespace_ops.specs.declared.turns.Round.{Round}
use Rattle.namespace_ops.specs.declared.turns.Round.TheVariants.{Mark, MarkAs, Remove, Settle, SettleAs}

-- what a round makes of a label
abbrev pub becomes : Round → Label → Option Label
becomes Mark l = Some (updating l)
becomes Settle l = Some (updated l)
becomes (MarkAs name) l = Some (with_name name (updating l))
becomes (SettleAs name) l = Some (with_name name (updated l))
becomes Remove l = None

-- the label changes of two rounds over the labels of a UUID, by position
abbrev pub rounds : Round → Round → List (Option SeenArea) → List ℕ → List Change
rounds first second areas uuid = in_two (becomes first) (becomes second) (own_labels areas uuid)

-- the label changes that come before these, of a pending namespace of several labels
abbrev pub first_round : List (List Mapping) → List (Option SeenArea) → List ℕ → List Change
first_round sets areas uuid = settled_first areas (lookup uuid (namespaces_of sets areas).entries)

-- a name has no zero byte
abbrev pub IsGoodName : Named → Type 0
IsGoodName name = (n : List ℕ) → name ≡ named.Good n → HasNoZero n

-- so the name that a command gives, if it gives one
abbrev pub HasGoodName : Command → Type 0
HasGoodName (command.Create spec) = IsGoodName spec.name
HasGoodName (command.Delete uuid) = ⊤
HasGoodName (command.Rename uuid name) = IsGoodName name
HasGoodName (command.Claim uuid) = ⊤
HasGoodName (command.Unclaim uuid) = ⊤

-- areas of which none is stopped, with their labels by UUID, and room for so many labels of a UUID and so many changes
pub record AreWorkable (areas : List Area) (groups : Grouping) (own changes : ℕ) : Type 0 where
  pub current : AreCurrent areas groups
  pub room : HasRoomFor (slots_in areas) own changes

-- power was cut in a command
abbrev pub is_cut : Result (Unit {0}) OpRefused → Bool
is_cut (Err PowerCut) = true
is_cut result = false

-- What became of areas and a fuse by a command. Where it is refused nothing changed, and the refusal is answered. Else its label
-- changes were made, as far as the fuse lasts, and the one error is that power was cut.
pub record Carried (sets : List (List Mapping)) (old new : List Area) (fuse left : Option ℕ) (command : Command) (result : Result (Unit {0}) OpRefused) : Type 0 where
  pub refused : (f : OpRefused) → refusal_of (shown sets old) command ≡ Some f → (result ≡ Err f) × (new ≡ old) × (left ≡ fuse)
  pub went : refusal_of (shown sets old) command ≡ None → Went old new fuse left (changes_of (shown sets old) (areas_seen old) command) (is_ok result)
  pub cut : refusal_of (shown sets old) command ≡ None → (f : OpRefused) → result ≡ Err f → f ≡ PowerCut
