-- All that is promised, by the sentences of the order: open this file first. A field is a file beside this one, in which each sentence is quoted with the statements
-- under it that say it; the one term is `promises` of proofs/Promises.antt. Statements that no sentence asks for stand apart, in more/More.antt.
use Rattle.sentences.specs.Demand1.{Demand1}
use Rattle.sentences.specs.Demand2.{Demand2}
use Rattle.sentences.specs.Demand3.{Demand3}
use Rattle.sentences.specs.P1.{P1}
use Rattle.sentences.specs.P2.{P2}
use Rattle.sentences.specs.P3.{P3}
use Rattle.sentences.specs.P4.{P4}
use Rattle.sentences.specs.P5.{P5}
use Rattle.sentences.specs.P7.{P7}
use Rattle.sentences.specs.P8.{P8}
use Rattle.sentences.specs.P9.{P9}
use Rattle.sentences.specs.P10.{P10}
use Rattle.sentences.specs.P11.{P11}
use Rattle.sentences.specs.P12.{P12}
use Rattle.sentences.specs.P13.{P13}
use Rattle.sentences.specs.P14.{P14}
use Rattle.sentences.specs.Audit.{Audit}
use Rattle.sentences.specs.Contract.{Contract}

pub record Promises : Type 1 where
  -- the three demands, and how far a contract must go
  pub demand1 : Demand1
  pub demand2 : Demand2
  pub demand3 : Demand3
  pub contract : Contract
  -- the requests of document 02; P6, "No answer changes.", adds none
  pub p1 : P1
  pub p2 : P2
  pub p3 : P3
  pub p4 : P4
  pub p5 : P5
  pub p7 : P7
  pub p8 : P8
  pub p9 : P9
  pub p10 : P10
  pub p11 : P11
  pub p12 : P12
  pub p13 : P13
  pub p14 : P14
  -- ours
  pub audit : Audit
