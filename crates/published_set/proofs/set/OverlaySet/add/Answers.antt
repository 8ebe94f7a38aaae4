use Rattle.std.proofs.Common.{sym, subst}
use Rattle.std.specs.Arc.{arc_value}
use Rattle.published_set.specs.Images.{image_of}
use Rattle.published_set.specs.Sets.{IsStanding, entry_of}
use Rattle.published_set.proofs.Adding.{added_stands}
use Rattle.published_set.proofs.set.OverlaySet.add.Goals as goal

pub returns-clause-standing : goal.returns-clause-standing
returns-clause-standing c =
    subst IsStanding (sym c.append.ensures) (added_stands c.args.self.now (entry_of c.args.published) (image_of (arc_value c.args.image)) c.requires.standing c.requires.good c.requires.takes)
