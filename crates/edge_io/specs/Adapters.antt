-- What stands behind a form over std.
use Rattle.edge_io.specs.declared.standard_sinks.StdSink.{StdSink}

-- the writer that a sink passes its bytes on to
abbrev pub writer_of : {W : Type 0} → StdSink W → W
writer_of sink = sink.writer
