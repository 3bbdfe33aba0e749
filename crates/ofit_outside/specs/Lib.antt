pub mod Faults
pub mod Counting
pub mod Folder
pub mod MemFolder
pub mod MemSink
pub mod Sink
pub mod StdSink
pub mod Streams
