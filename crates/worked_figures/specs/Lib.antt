pub mod FirstCalls
