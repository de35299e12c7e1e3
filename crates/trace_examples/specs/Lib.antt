pub mod Ledgers
pub mod MbimLedgers
pub mod Traces
pub mod MbimTraces
pub mod Shares
