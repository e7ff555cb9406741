use Rattle.session_law.proofs.AliasViews as law
use Rattle.session_law.proofs.laws.views_agree_with_looks.Goals as goal

pub returns : goal.returns
returns c = law.views_agree_with_looks
