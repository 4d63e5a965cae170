use Rattle.std.proofs.Common.{◌≡◌, ℕ, ◌*◌, ◌-◌, ◌∙◌, List, Ok, Err, drop, refl, subst, sym, ap, length, arith}
use Rattle.arena_layout.specs.declared.info.Info.{Info}
use Rattle.arena_layout.specs.Info.{IsArenaOf, info_reading}
use Rattle.arena_open.specs.declared.refused.OpenRefused.TheVariants as refused
use Rattle.arena_open.specs.Reading.{groups_in, info_bytes, map_in, on_map}
use Rattle.arena_open.proofs.Opening.{lanes_refused, opening_info, opening_map}
use Rattle.power_cut.specs.Namespace.{raw_bytes}
use Rattle.namespace_words.specs.Source.{IsMapOfBytes, Reveals, bytes_by, words_by}
use Rattle.namespace_words.proofs.HeldArenas.{answered_ok, blocks_found, decoded_with, ok_holds}
use Rattle.namespace_words.proofs.arenas.read_arena_from.Goals as goal

pub returns-in-Err-clause-told : goal.returns-in-Err-clause-told
returns-in-Err-clause-told g c = λ contents reveals not_memory.
    sym (opening_info (drop c.args.at (words_by c.args.extent.now contents)) c.args.parent.now c.in-Err.fault (sym (c.in_ok-info.ensures.told contents reveals) ∙ c.in-Err.is))

pub returns-in-Err-2-clause-told : goal.returns-in-Err-2-clause-told
returns-in-Err-2-clause-told g c = λ contents reveals.
    let held = subst (λ h. Reveals h c.args.extent.now.set contents) (sym c.in_ok-info.ensures.same) reveals in
    lanes_refused (drop c.args.at (words_by c.args.extent.now contents)) c.args.parent.now c.in-Ok.info (Err c.in-Err-2.fault) c.in_ok-groups.field-0 c.in-Err-2.fault
    (sym (c.in_ok-info.ensures.told contents reveals) ∙ c.in-Ok.is) refl (c.in_ok-groups.ensures.told contents held) c.in-Err-2.is

pub returns-in-Ok-3-clause-told : goal.returns-in-Ok-3-clause-told
returns-in-Ok-3-clause-told g c = λ contents reveals not_memory.
    let words : List ℕ = drop c.args.at (words_by c.args.extent.now contents) in
    let held = subst (λ h. Reveals h c.args.extent.now.set contents) (sym c.in_ok-info.ensures.same) reveals in
    let held' = subst (λ h. Reveals h c.args.extent.now.set contents) (sym c.in_ok-groups.ensures.same) held in
    let info : info_reading (info_bytes words) c.args.parent.now (8 * length words) ≡ Ok c.in-Ok.info = sym (c.in_ok-info.ensures.told contents reveals) ∙ c.in-Ok.is in
    let groups : groups_in c.in-Ok.info.layout words ≡ Ok c.in-Ok-2.groups =
    answered_ok refused.OutOfMemory c.in_ok-groups.field-0 (groups_in c.in-Ok.info.layout words) c.in-Ok-2.groups (c.in_ok-groups.ensures.told contents held) c.in-Ok-2.is in
    let entries : c.in-Ok-3.entries.items ≡ map_in c.in-Ok.info.layout words =
    ok_holds (λ es. es.items ≡ map_in c.in-Ok.info.layout words) c.in_ok-entries.field-0 c.in-Ok-3.entries c.in-Ok-3.is (c.in_ok-entries.ensures.told contents held') in
    c.decode_arena.ensures not_memory ∙ ap (λ (es : List ℕ). on_map c.in-Ok.info c.in-Ok-2.groups es) entries ∙ sym (opening_map words c.args.parent.now c.in-Ok.info c.in-Ok-2.groups info groups)

pub returns-in-Ok-3-clause-sound : goal.returns-in-Ok-3-clause-sound
returns-in-Ok-3-clause-sound g c =
    decoded_with (IsArenaOf c.args.parent.now (raw_bytes c.args.extent.now - 8 * c.args.at)) c.in-Ok.info c.in-Ok-2.groups c.in-Ok-3.entries.items c.decode_arena.result c.decode_arena.ensures
    (ok_holds (IsArenaOf c.args.parent.now (raw_bytes c.args.extent.now - 8 * c.args.at)) c.in_ok-info.field-0 c.in-Ok.info c.in-Ok.is c.in_ok-info.ensures.sound)

pub returns-in-Ok-3-clause-bytes : goal.returns-in-Ok-3-clause-bytes
returns-in-Ok-3-clause-bytes g c = λ contents reveals.
    let held = subst (λ h. Reveals h c.args.extent.now.set contents) (sym c.in_ok-info.ensures.same) reveals in
    let held' = subst (λ h. Reveals h c.args.extent.now.set contents) (sym c.in_ok-groups.ensures.same) held in
    decoded_with (λ (info : Info). IsMapOfBytes (bytes_by c.args.extent.now contents) c.args.at info.layout) c.in-Ok.info c.in-Ok-2.groups c.in-Ok-3.entries.items c.decode_arena.result c.decode_arena.ensures
    (ok_holds (λ es. IsMapOfBytes (bytes_by c.args.extent.now contents) c.args.at c.in-Ok.info.layout) c.in_ok-entries.field-0 c.in-Ok-3.entries c.in-Ok-3.is (c.in_ok-entries.ensures.bytes contents held'))

pub returns-in-Ok-3-clause-blocks : goal.returns-in-Ok-3-clause-blocks
returns-in-Ok-3-clause-blocks g c =
    blocks_found c.args.at (raw_bytes c.args.extent.now) c.args.parent.now c.in-Ok.info c.in-Ok-2.groups c.in-Ok-3.entries.items c.decode_arena.result c.decode_arena.ensures
    (ok_holds (IsArenaOf c.args.parent.now (raw_bytes c.args.extent.now - 8 * c.args.at)) c.in_ok-info.field-0 c.in-Ok.info c.in-Ok.is c.in_ok-info.ensures.sound)
    (ok_holds (λ es. length es.items ≡ c.in-Ok.info.layout.external) c.in_ok-entries.field-0 c.in-Ok-3.entries c.in-Ok-3.is c.in_ok-entries.ensures.count)
    (ok_holds (λ groups. (words : List ℕ) × (groups_in c.in-Ok.info.layout words ≡ Ok groups)) c.in_ok-groups.field-0 c.in-Ok-2.groups c.in-Ok-2.is c.in_ok-groups.ensures.lanes)
    (omega (arith, c.requires.inside)) c.requires.few
