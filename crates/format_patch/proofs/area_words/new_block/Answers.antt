use Rattle.std.proofs.Common.{◌∙◌, ap, subst}
use Rattle.arena_layout.specs.declared.info.Info.{Info}
use Rattle.arena_layout.specs.Info.{ReadsBack}
use Rattle.arena_layout.specs.Spelling.{spelling_of}
use Rattle.format_patch.proofs.area_words.new_block.Goals as goal

pub returns : goal.returns
returns c = record {
  spelling = c.write_info.ensures.spelling ∙ ap spelling_of c.new_info-info.ensures.info;
  reads = subst (λ (i : Info). ReadsBack c.write_info.new.into i) c.new_info-info.ensures.info c.write_info.ensures.reads_back;
  count = c.know_bytes.ensures.count;
  fit = c.know_bytes.ensures.fit;
  uuid_is = c.know_uuid.ensures;
}
