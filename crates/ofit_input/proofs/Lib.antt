pub mod Results
pub mod OneFile
pub mod OneGiven
pub mod OnePeak
pub mod OneReady
pub mod ScriptStops
