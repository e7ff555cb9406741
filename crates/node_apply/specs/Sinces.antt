-- What a commit tells of what changed since the one before it.
use Rattle.std.specs.Prelude.{Option, Some, None}
use Rattle.meta_state.specs.declared.touches.Touched.{Touched}
use Rattle.node_apply.specs.declared.sinces.Since.{Since}
use Rattle.node_apply.specs.declared.sinces.Since.TheVariants.{Unknown, Same, Among}

abbrev pub told_by : Since → Option Touched
told_by Unknown = None
told_by Same = None
told_by (Among touched) = Some touched
