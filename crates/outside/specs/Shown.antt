-- What is told of the files and of the sink in memory.
use Rattle.std.specs.Prelude.{Some}
use Rattle.outside.specs.Files.{FilesState}
use Rattle.outside.specs.Sinks.{SinkState}
use Rattle.outside.specs.Memory.{contents_of}
use Rattle.outside.specs.declared.mem_files.MemFiles.{MemFiles}
use Rattle.outside.specs.declared.mem_sink.MemSink.{MemSink}

abbrev pub files_state : MemFiles → FilesState
files_state m = record {
  contents = Some (contents_of m.files.items);
  read_faults = m.read_faults;
  write_faults = m.write_faults;
  given = m.trace.noted.given;
  writes = m.trace.noted.writes;
}

abbrev pub sink_state : MemSink → SinkState
sink_state s = record { received = s.received.items; faults = s.faults }
