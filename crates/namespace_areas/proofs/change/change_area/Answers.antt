use Rattle.std.proofs.Common.{◌≡◌, Option, sym, ap, ◌∙◌, subst}
use Rattle.std.specs.Prelude.{option_copied, ℕ}
use Rattle.std.specs.List.{position}
use Rattle.cut_words.specs.WordBytes.{bytes_of}
use Rattle.label_area.specs.Replace.{Changes}
use Rattle.namespace_map.specs.Areas.{slot_of}
use Rattle.namespace_areas.specs.Seen.{is_label_of, ready_seen}
use Rattle.namespace_areas.proofs.Slots.{has_label_used}
use Rattle.namespace_areas.proofs.OneChange.{out_is, went_ok, went_err}
use Rattle.namespace_areas.proofs.change.change_area.Goals as goal

pub replace-requires-clause-used : goal.replace-requires-clause-used
replace-requires-clause-used c slot is =
    let a = c.args.area.now in
    let out : c.slot_of-out.result ≡ slot_of (ready_seen a).slots c.args.uuid.now =
    c.slot_of-out.ensures ∙ ap (position (is_label_of c.args.uuid.now)) c.labels.ensures.listed ∙ out_is a c.requires.ready c.args.uuid.now in
    has_label_used (bytes_of a.words.kept) a.block.size a.block.free c.args.uuid.now slot (sym out ∙ is)

pub returns-in-Ok : goal.returns-in-Ok
returns-in-Ok c =
    let a = c.args.area.now in
    let out : c.slot_of-out.result ≡ slot_of (ready_seen a).slots c.args.uuid.now =
    c.slot_of-out.ensures ∙ ap (position (is_label_of c.args.uuid.now)) c.labels.ensures.listed ∙ out_is a c.requires.ready c.args.uuid.now in
    let changes = subst (λ (o : Option ℕ). Changes a c.replace.new.self c.args.fuse.now c.replace.new.fuse o (option_copied c.args.put)) out c.replace.ensures.change in
    went_ok a c.requires.ready c.args.uuid.now (option_copied c.args.put) c.requires.room c.replace.new.self c.args.fuse.now c.replace.new.fuse changes c.in-Ok._slot c.in-Ok.ensures.answer

pub returns-in-Err : goal.returns-in-Err
returns-in-Err c =
    let a = c.args.area.now in
    let out : c.slot_of-out.result ≡ slot_of (ready_seen a).slots c.args.uuid.now =
    c.slot_of-out.ensures ∙ ap (position (is_label_of c.args.uuid.now)) c.labels.ensures.listed ∙ out_is a c.requires.ready c.args.uuid.now in
    let changes = subst (λ (o : Option ℕ). Changes a c.replace.new.self c.args.fuse.now c.replace.new.fuse o (option_copied c.args.put)) out c.replace.ensures.change in
    went_err a c.requires.ready c.args.uuid.now (option_copied c.args.put) c.requires.room c.replace.new.self c.args.fuse.now c.replace.new.fuse changes c.in-Err._refused c.in-Err.ensures.answer
