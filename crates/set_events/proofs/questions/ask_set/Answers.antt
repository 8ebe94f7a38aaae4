use Rattle.std.proofs.Common.{◌≡◌, IfOk, List, map, subst}
use Rattle.std.specs.Arc.{arc_value}
use Rattle.live_model.specs.declared.rows.Row.{Row}
use Rattle.obf_reader.specs.Images.{Seen}
use Rattle.published_set.specs.Sets.{rules_of}
use Rattle.set_events.proofs.Following.{each_ok, images_follow, over_shown}
use Rattle.set_events.proofs.questions.ask_set.Goals as goal

pub ask-requires : goal.ask-requires
ask-requires g c = images_follow arc_value c.images-images.result.now (rules_of c.args.set.now) c.requires.base c.args.set.now.state c.requires.stands c.images-images.ensures

pub returns-clause-rows : goal.returns-clause-rows
returns-clause-rows g c =
    subst (λ (a : List Row). IfOk c.ask.result (λ rows. rows.items ≡ a)) (over_shown c.args.query.now (map arc_value c.images-images.result.now) c.args.set.now.state.files c.images-images.ensures) c.ask.ensures.rows

pub returns-clause-most : goal.returns-clause-most
returns-clause-most g c =
    record { images = map arc_value c.images-images.result.now; its = record { read = c.are_images.ensures; stand = c.images-images.ensures }; most = c.ask.ensures.steps }

pub returns-clause-whole : goal.returns-clause-whole
returns-clause-whole g c =
    each_ok c.ask.result (λ e. record { images = map arc_value c.images-images.result.now; its = record { read = c.are_images.ensures; stand = c.images-images.ensures }; each = e }) c.ask.ensures.read
