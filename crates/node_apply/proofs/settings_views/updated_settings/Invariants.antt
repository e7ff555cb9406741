use Rattle.std.proofs.Common.{◌≡◌}
use Rattle.plain_data.specs.Pairs.{lookup}
use Rattle.node_apply.specs.Updated.{updated}
use Rattle.node_apply.proofs.settings_views.updated_settings.Given as goal

abbrev pub invariant-loop-key : goal.invariant-loop-key
invariant-loop-key l = updated (λ key. lookup key l.new) l.key-iterator l.made ≡ updated (λ key. lookup key l.fn.new) l.fn.keys l.fn.before
