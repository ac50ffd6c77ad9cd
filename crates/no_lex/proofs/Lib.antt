mod Longest
mod Looking
mod Once
mod Spans
