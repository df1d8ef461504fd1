mod TryingLemmas
