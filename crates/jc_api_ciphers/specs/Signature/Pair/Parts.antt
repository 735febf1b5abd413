-- The parts of keys of pairs, as signatures read them.
use Rattle.std.specs.Prelude.{ℕ, ◌≤◌, List, Option}
use Rattle.jc_memory.specs.State.{MemoryState}
use Rattle.jc_world.specs.Arrays.{IsInArray, bytes_in}
use Rattle.jc_world.specs.declared.arrays.Stretch.{Stretch}
use Rattle.jc_public_keys.specs.Rsa.{PrimesKey, crt_power_of, power_of}
use Rattle.jc_api_ciphers.specs.declared.signature.pair.parts.EcParts.{EcParts}
use Rattle.jc_api_ciphers.specs.declared.signature.pair.parts.Primes as primes
use Rattle.jc_api_ciphers.specs.declared.signature.pair.parts.RsaParts.{RsaParts}

-- elements that are a part of an RSA key are there
pub record IsPart (m : MemoryState) (e : Stretch) : Type 0 where
  pub there : IsInArray m e
  pub few : e.count ≤ 512

pub record AreRsaParts (m : MemoryState) (k : RsaParts) : Type 0 where
  pub modulus : IsPart m k.modulus
  pub exponent : IsPart m k.exponent

pub record ArePrimes (m : MemoryState) (k : primes.Primes) : Type 0 where
  pub p : IsPart m k.p
  pub q : IsPart m k.q
  pub q_inverse : IsPart m k.q_inverse
  pub dp : IsPart m k.dp
  pub dq : IsPart m k.dq

pub record AreEcParts (m : MemoryState) (k : EcParts) : Type 0 where
  pub field : IsPart m k.field
  pub a : IsPart m k.a
  pub b : IsPart m k.b
  pub base : IsPart m k.base
  pub order : IsPart m k.order
  pub key : IsPart m k.key

-- the power of a message under an RSA key
abbrev pub power : MemoryState → RsaParts → List ℕ → Option (List ℕ)
power m key message = power_of (bytes_in m key.modulus) (bytes_in m key.exponent) message

-- under a private key by its primes, as n bytes
abbrev pub primes_key : MemoryState → primes.Primes → PrimesKey
primes_key m key = record {
  p = bytes_in m key.p;
  q = bytes_in m key.q;
  dp = bytes_in m key.dp;
  dq = bytes_in m key.dq;
  q_inverse = bytes_in m key.q_inverse;
}

abbrev pub crt_power : MemoryState → primes.Primes → List ℕ → ℕ → Option (List ℕ)
crt_power m key message n = crt_power_of (primes_key m key) message n
