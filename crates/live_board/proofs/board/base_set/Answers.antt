use Rattle.std.proofs.Common.{List, sym, subst}
use Rattle.std.specs.Arc.{arc_value}
use Rattle.live_model.specs.declared.objects.Entity.{Entity}
use Rattle.live_model.specs.Stores.{IsStore}
use Rattle.set_events.proofs.Preparing.{base_store}
use Rattle.live_board.proofs.board.base_set.Goals as goal

pub base_image-requires : goal.base_image-requires
base_image-requires c = subst (λ (es : List Entity). IsStore es) (sym c.requires.store) (base_store (arc_value c.args.base.now) c.requires.good)
