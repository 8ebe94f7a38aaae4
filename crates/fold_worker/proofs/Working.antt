-- Work at a site, one part after another.
use Rattle.std.proofs.Common.{◌≡◌, ℕ, ◌+◌, ◌-◌, ◌^◌, ◌<◌, List, Err, refl, sym, ap, subst, ◌∙◌, arith}
use Rattle.std.specs.Fn.{iterate}
use Rattle.live_model.specs.declared.objects.Line.{Line}
use Rattle.live_model.specs.declared.rules.Rule.{Rule}
use Rattle.overlay_set.specs.SetLaws.{IsReached}
use Rattle.overlay_set.proofs.Laws.{reached_chain}
use Rattle.published_set.specs.Sites.{AreCounts, CommitCounted, IsMoved, Site, raised}
use Rattle.published_set.specs.declared.errors.CommitError.{CommitError}
use Rattle.published_set.specs.declared.errors.CommitError.TheVariants.{NoMemory, Overtaken}
use Rattle.published_set.proofs.Moving.{unmoved}
use Rattle.fold_worker.specs.declared.report.WorkReport.{WorkReport}
use Rattle.fold_worker.specs.Work.{AreRaised, HaveRisen, IsCommit, IsReported, IsStopped, IsWork}
use Rattle.fold_worker.proofs.Raising.{low_rise, raised_both, rise_at_most, told_rise}

-- what was counted where a commit was overtaken
pub counted_overtaken : (T : Type 0) (a b : Site) (e : CommitError) (file : ℕ) → e ≡ Overtaken file → CommitCounted {T = T} a b (Err e)
    → AreCounts b a.plans a.folds (raised a.overtaken)
counted_overtaken T a b e file is counted = subst (λ (x : CommitError). CommitCounted {T = T} a b (Err x)) is counted

-- and where memory was refused
pub counted_nothing : (T : Type 0) (a b : Site) (e : CommitError) → e ≡ NoMemory → CommitCounted {T = T} a b (Err e) → AreCounts b a.plans a.folds a.overtaken
counted_nothing T a b e is counted = subst (λ (x : CommitError). CommitCounted {T = T} a b (Err x)) is counted

-- a site that moved and moved again
pub moved_both : (a b c : Site) → IsMoved a b → IsMoved b c → IsMoved a c
moved_both a b c p q = record {
  rules = q.rules ∙ p.rules;
  base = q.base ∙ p.base;
  reached = reached_chain a.rules a.base a.state b.state c.state p.reached
      (subst (λ (base : List Line). IsReached a.rules base b.state c.state) p.base (subst (λ (rules : List Rule). IsReached rules b.base b.state c.state) p.rules q.reached));
}

-- a count that was raised and raised again
pub count_both : (p q a b c : ℕ) → b ≡ iterate raised p a → c ≡ iterate raised q b → c ≡ iterate raised (p + q) a
count_both p q a b c first more = more ∙ ap (iterate raised q) first ∙ raised_both p q a

-- so each count of a site
pub counts_both : (a b c : Site) (p q f g o u : ℕ) → AreRaised a b p f o → AreRaised b c q g u → AreRaised a c (p + q) (f + g) (o + u)
counts_both a b c p q f g o u first more = (
  count_both p q a.plans b.plans c.plans first.0 more.0,
  count_both f g a.folds b.folds c.folds first.1 more.1,
  count_both o u a.overtaken b.overtaken c.overtaken first.2 more.2,
)

-- no work is done so far
pub work_none : (s : Site) (r : WorkReport) → IsWork 0 s s r r
work_none s r = record {
  moved = unmoved s s refl refl refl;
  plans = 0;
  folds = 0;
  overtaken = 0;
  enough = omega arith;
  counts = (refl, refl, refl);
  folds_told = refl;
  overtaken_told = refl;
}

-- a plan was counted
pub work_planned : (a b : Site) (r : WorkReport) → IsMoved a b → AreCounts b (raised a.plans) a.folds a.overtaken → IsWork 1 a b r r
work_planned a b r moved counts = record {
  moved = moved;
  plans = 1;
  folds = 0;
  overtaken = 0;
  enough = omega arith;
  counts = counts;
  folds_told = refl;
  overtaken_told = refl;
}

-- work, and more of it
pub work_both : (m n : ℕ) (a b c : Site) (r s t : WorkReport) → IsWork m a b r s → IsWork n b c s t → IsWork (m + n) a c r t
work_both m n a b c r s t v w = record {
  moved = moved_both a b c v.moved w.moved;
  plans = v.plans + w.plans;
  folds = v.folds + w.folds;
  overtaken = v.overtaken + w.overtaken;
  enough = omega (arith, v.enough, w.enough);
  counts = counts_both a b c v.plans w.plans v.folds w.folds v.overtaken w.overtaken v.counts w.counts;
  folds_told = count_both v.folds w.folds r.folds s.folds t.folds v.folds_told w.folds_told;
  overtaken_told = count_both v.overtaken w.overtaken r.overtaken s.overtaken t.overtaken v.overtaken_told w.overtaken_told;
}

-- work with a plan to spare, and the commit for it
pub work_committed : (a b c : Site) (r s t : WorkReport) → IsWork 1 a b r s → IsCommit b c s t → IsWork 0 a c r t
work_committed a b c r s t v w = record {
  moved = moved_both a b c v.moved w.moved;
  plans = v.plans + 0;
  folds = v.folds + w.folds;
  overtaken = v.overtaken + w.overtaken;
  enough = omega (arith, v.enough, w.one);
  counts = counts_both a b c v.plans 0 v.folds w.folds v.overtaken w.overtaken v.counts w.counts;
  folds_told = count_both v.folds w.folds r.folds s.folds t.folds v.folds_told w.folds_told;
  overtaken_told = count_both v.overtaken w.overtaken r.overtaken s.overtaken t.overtaken v.overtaken_told w.overtaken_told;
}

-- work that began with an empty report, with a plan to spare, is what is reported
pub work_reported : (a b : Site) (r : WorkReport) → IsWork 1 a b (record { folds = 0; overtaken = 0 }) r → IsReported a b r
work_reported a b r w = record {
  plans = w.plans;
  more = omega (arith, w.enough, w.folds_told, w.overtaken_told, rise_at_most w.folds 0, rise_at_most w.overtaken 0);
  counts = (
    w.counts.0,
    w.counts.1 ∙ sym (told_rise r.folds w.folds a.folds w.folds_told),
    w.counts.2 ∙ sym (told_rise r.overtaken w.overtaken a.overtaken w.overtaken_told),
  );
}

-- work that broke off
pub work_stopped : (a b : Site) (r s : WorkReport) → IsWork 0 a b r s → IsStopped a b
work_stopped a b r s w = record {
  plans = w.plans;
  folds = w.folds;
  overtaken = w.overtaken;
  enough = omega (arith, w.enough);
  counts = w.counts;
}

-- what was reported is the rise of the counts that are below their last value
pub reported_rise : (before after : Site) (report : WorkReport) → IsReported before after report → HaveRisen before after report
reported_rise before after report w = record {
  folds = λ low. (low_rise report.folds before.folds (subst (λ (n : ℕ). n < 2 ^ 64 - 1) w.counts.1 low)) ∙ sym w.counts.1;
  overtaken = λ low. (low_rise report.overtaken before.overtaken (subst (λ (n : ℕ). n < 2 ^ 64 - 1) w.counts.2 low)) ∙ sym w.counts.2;
  plans = λ low. omega (arith, w.more, w.counts.0, low_rise w.plans before.plans (subst (λ (n : ℕ). n < 2 ^ 64 - 1) w.counts.0 low));
}
