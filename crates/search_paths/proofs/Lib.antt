mod TokenLemmas
mod RunPathLemmas
mod DecisionLemmas
mod OpeningLemmas
