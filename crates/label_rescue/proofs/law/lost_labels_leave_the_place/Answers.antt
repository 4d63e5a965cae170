use Rattle.label_rescue.proofs.Kept.{place_kept}
use Rattle.label_rescue.proofs.law.lost_labels_leave_the_place.Goals as goal

pub returns : goal.returns
returns c = place_kept
