-- A table of examples holds where one test, which antt computes, passes over the whole of it.
use Rattle.std.proofs.Common.{◌≡◌, true, List, refl}
use Rattle.std.specs.List.{AllByRecursion, list_all}
use Rattle.std.specs.Str.{bytes_eq}
use Rattle.std.proofs.ByRecursion.{Decides-by_and}
use Rattle.std.proofs.lemmas.Slice.Eq.{bytes_eq-Decides}
use Rattle.samples.specs.Samples.{Sample}

pub table_holds : (rows : List Sample) → list_all (λ s. bytes_eq s.found s.wanted) rows ≡ true → AllByRecursion (λ s. s.found ≡ s.wanted) rows
table_holds rows =
    (Decides-by_and (λ s. bytes_eq s.found s.wanted) (λ s. s.found ≡ s.wanted) (list_all (λ s. bytes_eq s.found s.wanted)) (λ s. bytes_eq-Decides s.found s.wanted) refl (λ s more. refl) rows).0
