use Rattle.std.proofs.Common.{ℕ, List, sym, ap, ◌∙◌, subst}
use Rattle.power_cut.specs.declared.leaving.Images.{Images}
use Rattle.power_cut.specs.Left.{AreAtPlaces}
use Rattle.power_cut.proofs.AtPlaces.{at_places, rooms_left, with_is}
use Rattle.power_cut.proofs.leaving.leave_all.Goals as goal

pub put_arenas-contents-requires : goal.put_arenas-contents-requires
put_arenas-contents-requires g c = rooms_left c.args.contents c.in_ok-contents.contents c.args.arenas.items c.in_ok-contents.ensures.left c.requires.placed

pub returns-clause-asked : goal.returns-clause-asked
returns-clause-asked g c =
    let left : Images = record { labels = c.in_ok-labels.labels; contents = c.in_ok-contents.contents } in
    let has = rooms_left c.args.contents c.in_ok-contents.contents c.args.arenas.items c.in_ok-contents.ensures.left c.requires.placed in
    record {
      left = record { labels = c.in_ok-labels.labels; contents = c.in_ok-contents.contents };
      asked = record { between = c.leave_areas.new.choose; labels = c.in_ok-labels.ensures.asked; contents = c.in_ok-contents.ensures.asked };
      each = record { labels = c.in_ok-labels.ensures.left; contents = c.in_ok-contents.ensures.left };
      over = ap (λ (contents : List (List ℕ)). record { labels = c.in_ok-labels.labels; contents = contents }) c.put_arenas-contents.ensures
          ∙ sym (with_is c.args.arenas.items (record { labels = c.in_ok-labels.labels; contents = c.in_ok-contents.contents }) has c.requires.apart);
    }

pub returns-clause-at_places : goal.returns-clause-at_places
returns-clause-at_places g c =
    let has = rooms_left c.args.contents c.in_ok-contents.contents c.args.arenas.items c.in_ok-contents.ensures.left c.requires.placed in
    subst (λ (contents : List (List ℕ)). AreAtPlaces c.args.arenas.items contents) (sym c.put_arenas-contents.ensures)
    (at_places c.args.arenas.items (record { labels = c.in_ok-labels.labels; contents = c.in_ok-contents.contents }) has c.requires.apart)
