-- A plan that fits goes on to fit.
use Rattle.std.proofs.Common.{ℕ, ◌<◌, ◌≤◌, List, [], ◌∷◌, ◌++◌, sym, subst, ◌∙◌, inl, inr, le_trans}
use Rattle.std.specs.List.{AllByRecursion}
use Rattle.live_model.specs.declared.levels.Level.{Level}
use Rattle.overlay_set.specs.Sets.{Entry, MapFile, age}
use Rattle.overlay_set.specs.Standing.{AreRising}
use Rattle.overlay_set.specs.Swaps.{IsAmong, CoverPeriod}
use Rattle.overlay_set.specs.SetLaws.{FitsLaterLaw}
use Rattle.overlay_set.proofs.Closing.{closed_stays, entries_stay}

pub of_all : {A : Type 0} (P : A → Type 0) (xs : List A) (x : A) → AllByRecursion P xs → IsAmong x xs → P x
of_all P [] x all h = absurd h
of_all P (y ∷ ys) x all (inl e) = subst P (sym e) all.0
of_all P (y ∷ ys) x all (inr h) = of_all P ys x all.1 h

pub each_of : {A : Type 0} (P Q : A → Type 0) → ((x : A) → P x → Q x) → (xs : List A) → AllByRecursion P xs → AllByRecursion Q xs
each_of P Q f [] all = tt
each_of P Q f (x ∷ xs) all = (f x all.0, each_of P Q f xs all.1)

pub cover_stays : (files : List MapFile) (level : Level) (xs ys : List Entry) → AreRising (xs ++ ys) → CoverPeriod files level xs → CoverPeriod files level (xs ++ ys)
cover_stays files level xs ys rising c = record {
  hour = c.hour;
  closed = closed_stays level c.hour xs ys c.closed;
  runs = c.runs;
  whole = c.whole ∙ sym (entries_stay level c.hour xs ys rising c.closed);
  heads = c.heads;
}

pub fits_later : FitsLaterLaw
fits_later plan a b rising fits later = record {
  some = fits.some;
  rules = fits.rules;
  planned = fits.planned;
  given = each_of (λ f. (0 < f.number) × (f.number ≤ age a)) (λ f. (0 < f.number) × (f.number ≤ age b)) (λ f h. (h.0, le_trans h.1 later.grows)) plan.files fits.given;
  same = λ f g hf hg e. fits.same f g hf (later.old g hg (subst (λ (n : ℕ). n ≤ age a) e (of_all (λ f. (0 < f.number) × (f.number ≤ age a)) plan.files f fits.given hf).1)) e;
  level = fits.level;
  covers = subst (λ h. CoverPeriod plan.files plan.level h) later.history.1 (cover_stays plan.files plan.level a.history later.history.0 (subst AreRising (sym later.history.1) rising) fits.covers);
  several = fits.several;
}
