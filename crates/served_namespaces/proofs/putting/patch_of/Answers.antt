use Rattle.std.proofs.Common.{◌≡◌, ◌∙◌, ℕ, ◌<◌, ◌++◌, ◌∷◌, [], List, Some, length, map, refl, sym, ap, subst, arith, append-nil, append_assoc}
use Rattle.std.specs.Prelude.{slice_get}
use Rattle.std.specs.List.{All}
use Rattle.std.proofs.lemmas.List.{nil_from_length}
use Rattle.nfit_reader.specs.declared.table.Mapping.{Mapping}
use Rattle.image_set.specs.Patches.{patched_contents}
use Rattle.namespace_bytes.specs.Patching.{BytePatch, all_patched, patch_in}
use Rattle.sector_namespaces.specs.View.{rows_of}
use Rattle.served_namespaces.specs.Places.{PlaceBytes}
use Rattle.served_namespaces.specs.Serving.{AreLeft}
use Rattle.served_namespaces.proofs.PutInTurn.{AreFirst, Puts, all_left, all_made, few_parts, item_next, made_more, none_made, place_below}
use Rattle.served_namespaces.proofs.Steps.{got_item}
use Rattle.served_namespaces.proofs.putting.patch_of.Goals as goal

pub loop-parts-init : goal.loop-parts-init
loop-parts-init c = record {
  rest = c.into_iter-parts-iterator.ensures.into_iter_gives.0;
  first = subst (AreFirst c.args.sets c.args.places.now []) (sym c.new-each.ensures) (none_made c.args.sets c.args.places.now);
}

pub part_of-requires : goal.part_of-requires
part_of-requires c =
    let done = c.loop-parts.yielded in
    let here = item_next c.args.words.items done c.in-Some.parts c.next.new.self.rest.items (ap (λ r. done ++ r) (sym c.in-Some.ensures.steps.0) ∙ c.loop-parts.invariant.rest) in
    few_parts c.args.sets c.args.places.now c.requires.0 c.args.words.items c.requires.1 (length done) here.0 c.in-Some.parts here.1

pub loop-parts-preserved : goal.loop-parts-preserved
loop-parts-preserved c =
    let i = c.loop-parts.invariant in
    let done = c.loop-parts.yielded in
    let parts = c.in-Some.parts in
    let all = ap (λ r. done ++ r) (sym c.in-Some.ensures.steps.0) ∙ i.rest in
    let here = item_next c.args.words.items done parts c.next.new.self.rest.items all in
    let place = c.index-places-len.result in
    let below : length done < length c.args.places.now = place_below c.args.sets c.args.places.now c.requires.0 c.args.words.items c.requires.1 (length done) here.0 in
    let number : c.len.result ≡ length done = c.len.ensures ∙ i.first.count in
    let at : slice_get c.args.places.now (length done) ≡ Some place =
    subst (λ (k : ℕ). slice_get c.args.places.now k ≡ Some place) number (got_item c.args.places.now c.len.result place (omega (arith, below, number)) c.index-places-len.is) in
    record {
      rest = append_assoc done (parts ∷ []) c.next.new.self.rest.items ∙ all;
      first = made_more c.args.sets c.args.places.now c.requires.0 c.args.words.items c.requires.1 (length done) here.0 done c.loop-parts.each c.push.new.self place parts c.in_ok-part_of.field-0 i.first refl at
          c.in_ok-part_of.ensures c.in_ok-push.ensures.ok;
    }

pub returns : goal.returns
returns c = λ opened contents ready held whole reach.
    let none = nil_from_length c.loop-parts.parts-iterator.rest.items (omega (arith, c.in-None.ensures.steps.0, c.loop-parts.parts-iterator.rest.ok.0)) in
    let words : c.loop-parts.yielded ≡ c.args.words.items = sym (append-nil c.loop-parts.yielded) ∙ ap (λ r. c.loop-parts.yielded ++ r) (sym none) ∙ c.loop-parts.invariant.rest in
    let first = subst (λ (ws : List (List (List ℕ))). AreFirst c.args.sets c.args.places.now ws c.loop-parts.each) words c.loop-parts.invariant.first in
    let sound : PlaceBytes c.args.sets = subst (λ (ms : List (List Mapping)). PlaceBytes ms) c.as_slice.ensures c.know_sets.ensures in
    let made : c.new.result ≡ map (patch_in c.args.sets) c.loop-parts.each = c.new.ensures.made in
    subst (λ (ps : List BytePatch). AreLeft c.args.sets (rows_of contents) opened c.args.words.items (rows_of (patched_contents (all_patched ps) contents))) (sym made)
    (all_left c.args.sets sound c.args.places.now opened c.args.words.items c.loop-parts.each contents ready
    (all_made c.args.sets c.args.places.now opened c.args.words.items c.loop-parts.each ready first) (subst (λ (ps : List BytePatch). All Puts ps) made c.new.ensures.patched) held whole reach)
