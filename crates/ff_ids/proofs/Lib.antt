pub mod FaultLemmas
pub mod HexLemmas
pub mod MaskLemmas
pub mod Rows
pub mod BitLemmas
pub mod ViewLemmas
