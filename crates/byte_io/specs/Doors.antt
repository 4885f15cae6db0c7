-- What a door answers.
use Rattle.std.specs.Prelude.{◌≡◌, ℕ, List, ◌∷◌, Option, Some, None, IsSomeAnd}
use Rattle.byte_io.specs.Counts.{Rose, raised}
use Rattle.byte_io.specs.declared.door.Next.{Next}
use Rattle.byte_io.specs.declared.door.Next.TheVariants.{Conn, Over, Failed}

-- where the connections to come are told, the first of them is given, and another answer leaves
-- them
abbrev pub Accepts : {C : Type 0} → Option (List C) → Option (List C) → Next C → Type 0
Accepts None new next = Unit {0}
Accepts (Some conns) new (Conn conn) = IsSomeAnd new (λ left. conns ≡ conn ∷ left)
Accepts (Some conns) new Over = new ≡ Some conns
Accepts (Some conns) new Failed = new ≡ Some conns

-- what holds of the connection that is given
abbrev pub IfConn : {C : Type 0} → Next C → (C → Type 0) → Type 0
IfConn (Conn conn) P = P conn
IfConn Over P = Unit {0}
IfConn Failed P = Unit {0}

-- what holds where the answer is Over
abbrev pub OnOver : {C : Type 0} → Next C → Type 0 → Type 0
OnOver (Conn conn) fact = Unit {0}
OnOver Over fact = fact
OnOver Failed fact = Unit {0}

-- the count of faults rose where the answer is a fault, and stands where it is another
abbrev pub CountsDoorFault : {C : Type 0} → Next C → ℕ → ℕ → Type 0
CountsDoorFault (Conn conn) before now = now ≡ before
CountsDoorFault Over before now = now ≡ before
CountsDoorFault Failed before now = Rose before now

-- the count of faults after an answer that raises it by one where it is a fault
abbrev pub faults_after_accept : {C : Type 0} → Next C → ℕ → ℕ
faults_after_accept (Conn conn) count = count
faults_after_accept Over count = count
faults_after_accept Failed count = raised count
