mod ScriptLines
mod Buffers
mod Playing
mod Heading
