use Rattle.overlay_set.proofs.Laws.{reached_later}
use Rattle.published_set.proofs.Growing.{fold_grows}
use Rattle.published_set.proofs.site.sites_go_on.Goals as goal

pub returns-clause-moved : goal.returns-clause-moved
returns-clause-moved c = λ before next m. reached_later before.rules before.base before.state next.state m.reached

pub returns-clause-folded : goal.returns-clause-folded
returns-clause-folded c = λ plan before next fits f st.
    fold_grows next.rules next.base before.state f.found next.state plan fits (reached_later before.rules before.base before.state f.found f.reached) f.all f.folded st.stands
