-- A law of cuts: a run is cut exactly if a reply is refused.
pub use Rattle.meaning_laws.specs.Refusals.{CutJustThere, CutsAtRefusals}
