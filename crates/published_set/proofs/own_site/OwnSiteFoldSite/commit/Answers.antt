use Rattle.std.proofs.Common.{sym, ap, subst, ◌∙◌}
use Rattle.overlay_set.specs.Sets.{images_of}
use Rattle.overlay_set.specs.Swaps.{Fits, fold_image}
use Rattle.published_set.specs.Sets.{PublishedSet, rules_of}
use Rattle.published_set.specs.Sites.{IsMoved, Site}
use Rattle.published_set.proofs.Moving.{folded_moves}
use Rattle.published_set.proofs.Replacing.{rules_stay}
use Rattle.published_set.proofs.own_site.OwnSiteFoldSite.commit.Goals as goal

pub returns-in-Ok-clause-moved : goal.returns-in-Ok-clause-moved
returns-in-Ok-clause-moved c =
    let fits : Fits c.args.work c.self.inside.set.state = subst (λ (s : Site). Fits c.args.work s.state) (sym c.self.view_is) c.requires.fits in
    let before : Site = record {
      rules = rules_of c.self.inside.set;
      base = c.self.inside.set.base;
      state = c.self.inside.set.state;
      plans = c.self.inside.plans;
      folds = c.self.inside.folds;
      overtaken = c.self.inside.overtaken;
    } in
    let after : Site = record {
      rules = rules_of c.replace.new.self;
      base = c.replace.new.self.base;
      state = c.replace.new.self.state;
      plans = c.self.inside.plans;
      folds = c.saturating_add-self-inside.result;
      overtaken = c.self.inside.overtaken;
    } in
    subst (λ (s : Site). IsMoved s after) c.self.view_is
    (folded_moves before after c.args.work fits c.in-Ok.ensures.cause
    (ap rules_of c.in-Ok.ensures.set ∙ rules_stay c.self.inside.set c.args.work (fold_image c.args.work.level (images_of c.args.work.files)) c.self.invariant fits)
    (ap (λ (s : PublishedSet). s.base) c.in-Ok.ensures.set) (ap (λ (s : PublishedSet). s.state) c.in-Ok.ensures.set)).0
