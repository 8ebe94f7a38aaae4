use Rattle.std.proofs.Common.{refl, arith}
use Rattle.fold_worker.proofs.Working.{counted_nothing, counted_overtaken}
use Rattle.fold_worker.proofs.folding.commit.Goals as goal

pub returns-in-Ok-clause-done : goal.returns-in-Ok-clause-done
returns-in-Ok-clause-done g c = record {
  moved = c.in-Ok.ensures.moved;
  folds = 1;
  overtaken = 0;
  one = omega arith;
  counts = c.in-Ok.ensures.counted;
  folds_told = c.saturating_add-report.ensures;
  overtaken_told = refl;
}

pub returns-in-Err-Overtaken-clause-done : goal.returns-in-Err-Overtaken-clause-done
returns-in-Err-Overtaken-clause-done g c = record {
  moved = c.in-Err-Overtaken.ensures.moved;
  folds = 0;
  overtaken = 1;
  one = omega arith;
  counts = counted_overtaken (Unit {0}) (g.S.FoldSite.site c.args.site.now) (g.S.FoldSite.site c.commit.new.self) _ _ c.in-Err-Overtaken.field-0-is c.in-Err-Overtaken.ensures.counted;
  folds_told = refl;
  overtaken_told = c.saturating_add-report-in-Err-Overtaken.ensures;
}

pub returns-in-Err-NoMemory-clause-done : goal.returns-in-Err-NoMemory-clause-done
returns-in-Err-NoMemory-clause-done g c = record {
  moved = c.in-Err-NoMemory.ensures.moved;
  folds = 0;
  overtaken = 0;
  one = omega arith;
  counts = counted_nothing (Unit {0}) (g.S.FoldSite.site c.args.site.now) (g.S.FoldSite.site c.commit.new.self) _ c.in-Err-NoMemory.field-0-is c.in-Err-NoMemory.ensures.counted;
  folds_told = refl;
  overtaken_told = refl;
}
