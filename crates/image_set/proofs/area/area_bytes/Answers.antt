use Rattle.std.proofs.Common.{length, sym, ap, ◌∙◌, subst}
use Rattle.label_index.specs.Area.{IsAreaSize}
use Rattle.cut_words.proofs.Bytes.{length_bytes}
use Rattle.image_set.proofs.area.area_bytes.Goals as goal

pub returns-in_ok-bytes_in-in-Some-clause-sized : goal.returns-in_ok-bytes_in-in-Some-clause-sized
returns-in_ok-bytes_in-in-Some-clause-sized c =
    subst IsAreaSize (sym (ap length c.in_ok-bytes_in-in-Some.ensures.bytes ∙ length_bytes c.in-Some.words.kept)) (c.requires.sized c.in-Some.words c.in-Some.is)
