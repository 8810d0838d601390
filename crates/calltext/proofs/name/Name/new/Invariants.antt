use Rattle.std.proofs.Common.{◌≡◌, length, take}
use Rattle.calltext.proofs.name.Name.new.Given as goal

abbrev pub invariant-loop-place : goal.invariant-loop-place
invariant-loop-place l = record { size : length l.letters ≡ 16; copied : take l.place l.letters ≡ take l.place l.word }
