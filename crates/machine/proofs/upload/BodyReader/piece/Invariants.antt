use Rattle.std.proofs.Common.{◌≡◌, ◌++◌, List, ℕ, length, true}
use Rattle.machine.specs.Steps.Uploads.{StandsBy, emptied}
use Rattle.machine.proofs.upload.BodyReader.piece.Given as goal

abbrev pub invariant-loop-rest : goal.invariant-loop-rest
invariant-loop-rest l = record {
  taken : (front : List ℕ) × (l.bytes ≡ front ++ l.rest) × ((body : List ℕ) → StandsBy l.fn.self body → StandsBy l.self (body ++ front));
  same : emptied l.self.lines ≡ emptied l.fn.self.lines;
  for_good : l.fn.self.is_out_of_memory ≡ true → l.self.is_out_of_memory ≡ true;
}

abbrev pub decreases-loop-rest : goal.decreases-loop-rest
decreases-loop-rest l = length l.rest
